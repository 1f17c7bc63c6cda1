-- Each step keeps the rule of the log.
use Rattle.std.proofs.Common.{◌≡◌, ◌≢◌, ℕ, zero, suc, List, [], ◌∷◌, ◌++◌, length, set}
use Rattle.std.proofs.Common.{Bool, true, false, true≢false, refl, sym, ap, ◌∙◌, subst, ⊎_elim}
use Rattle.std.proofs.Common.{arith}
use Rattle.std.specs.Prelude.{slice_index, slice_set}
use mathlib.Core.Option.{some, some-ne-none, some-injective}
use mathlib.Core.List.{IsPrefix}
use mathlib.Core.Logic.{dite}
use native.Mathlib.Decide.{ℕ_discrete}
use lib.ListN.{get_elem?}
use Rattle.atomic_table.specs.Table.{State, Me, step, keeps, Allows, Splits, Joins}
use Rattle.atomic_table.proofs.Lists.{at_set, at_snoc, at_longer, set_here, set_else}
use Rattle.gate_word.specs.declared.rule.View.{View}
use Rattle.gate_word.specs.Rule.{keeper_view, reader_view, Compared, Fits, KeptAt, Kept, Raised}
use Rattle.gate_word.specs.Rule.{Took, handed_by, left_by, longer, note_of, noted, raised}
use Rattle.lemmas.proofs.Lists.{prefix_self, prefix_trans}
use Rattle.gate_word.proofs.Beginnings.{longer_left, longer_right}
use Rattle.gate_word.proofs.Beginnings.{longer_within}
use Rattle.gate_word.proofs.Numbers.{at_within}
use Rattle.gate_word.proofs.Numbers as numbers

off : false ≡ true → ⊥
off e = true≢false (sym e)

module _ {E : Type 0} where
  -- the rule over a state of the table
  abbrev KeepsRule : State ℕ (View E) → Type 0
  KeepsRule s = Kept s.words s.views

  nothing : (xs : List E) → IsPrefix [] xs
  nothing xs = (xs, refl)

  -- the first seat is the keeper's
  pub begins : Kept {E = E} (0 ∷ []) (keeper_view [] [] ∷ [])
  begins = (
    [],
    refl,
    record { seat = 0; keeper = (keeper_view [] [], refl, refl); all = one },
    record { once = λ n. omega arith; made = λ n beyond. omega arith },
  )
    where
      one : (by : ℕ) (v : View E) → get_elem? (keeper_view [] [] ∷ []) by ≡ some v → Fits [] 0 by v
      one zero v e =
          subst (Fits [] 0 0) (some-injective _ _ e) (nothing [], nothing [], λ _. (refl, refl))
      one (suc by) v e = absurd (some-ne-none v (sym e))

  -- a seat's view changes, and the log grows only if that seat is the keeper's
  pub turned : (m n : List E) (views : List (View E)) (id : ℕ) (v w : View E) → KeptAt m views
      → get_elem? views id ≡ some v → w.keeps ≡ v.keeps → IsPrefix m n
      → (v.keeps ≡ false → n ≡ m) → IsPrefix w.log n → IsPrefix w.note n
      → (v.keeps ≡ true → w.log ≡ n) → KeptAt n (set views id w)
  turned m n views id v w h at same up still below below' top = record {
    seat = h.seat;
    keeper = dite (ℕ_discrete h.seat id)
        (λ (e : h.seat ≡ id). (w, here e, same ∙ mine e))
        (λ (ne : h.seat ≢ id).
        (h.keeper.0, set_else views id h.seat w ne ∙ h.keeper.1, h.keeper.2));
    all = λ j u e. ⊎_elim
        (λ (t : (j ≡ id) × (w ≡ u)). subst (λ (z : View E). Fits n h.seat j z) t.1 (
          below,
          below',
          λ (k : w.keeps ≡ true). (t.0 ∙ (fits (sym same ∙ k)).0, top (sym same ∙ k)),
        ))
        (λ (t : (j ≢ id) × (get_elem? views j ≡ some u)).
        others j u t.0 (h.all j u t.1) v.keeps refl)
        (at_set views id j w u e);
  }
    where
      here : h.seat ≡ id → get_elem? (set views id w) h.seat ≡ some w
      here e = subst (λ (k : ℕ). get_elem? (set views id w) k ≡ some w) (sym e)
          (set_here views id w (at_within views id v at))

      fits : v.keeps ≡ true → (id ≡ h.seat) × (v.log ≡ m)
      fits = (h.all id v at).2

      mine : h.seat ≡ id → v.keeps ≡ true
      mine e = ap (λ (z : View E). z.keeps)
          (some-injective _ _ (sym at ∙ sym (ap (get_elem? views) e) ∙ h.keeper.1)) ∙ h.keeper.2

      others : (j : ℕ) (u : View E) → j ≢ id → Fits m h.seat j u → (b : Bool) → v.keeps ≡ b
          → Fits n h.seat j u
      others j u apart f true k = (
        prefix_trans u.log m n f.0 up,
        prefix_trans u.note m n f.1 up,
        λ c. absurd (apart ((f.2 c).0 ∙ sym (fits k).0)),
      )
      others j u apart f false k = (
        prefix_trans u.log m n f.0 up,
        prefix_trans u.note m n f.1 up,
        λ c. ((f.2 c).0, (f.2 c).1 ∙ sym (still k)),
      )

  -- a seat of a beginning of the log is added
  pub added : (n : List E) (views : List (View E)) (w : View E) → KeptAt n views
      → w.keeps ≡ false → IsPrefix w.log n → IsPrefix w.note n → KeptAt n (views ++ w ∷ [])
  added n views w h none below below' = record {
    seat = h.seat;
    keeper = (h.keeper.0, at_longer views (w ∷ []) h.seat h.keeper.0 h.keeper.1, h.keeper.2);
    all = λ j u e. ⊎_elim (h.all j u)
        (λ (same : w ≡ u). subst (λ (z : View E). Fits n h.seat j z) same
        (below, below', λ (k : w.keeps ≡ true). absurd (off (sym none ∙ k))))
        (at_snoc views w u j e);
  }

  -- a reader takes in what it noted
  pub takes : (slots id : ℕ) (me : Me ℕ (View E)) → me.0.keeps ≡ false
      → Allows KeepsRule slots id me 0 (λ k. k)
      (Took (step slots 0 0 0 mathlib.Core.Option.none) me)
  takes slots id me plain s kept len at fits =
      let m = kept.0 in
      let mine = kept.2.all id me.0 at in
      let both = longer me.0.log me.0.note in
      let w : View E = reader_view both me.0.own in (
        w,
        keeps,
        tt,
        (
          m,
          ap (λ (ws : List ℕ). slice_set ws 0 (slice_index ws 0)) kept.1,
          turned m m s.views id me.0 w kept.2 at (sym plain) (prefix_self m) (λ _. refl)
              (longer_within me.0.log me.0.note m mine.0 mine.1) (nothing m)
              (λ k. absurd (off (sym plain ∙ k))),
          numbers.fewer m m s.views id me.0 w kept.3 at (prefix_self m) (λ k. omega arith),
        ),
        (
          refl,
          longer_left me.0.log me.0.note m mine.0 mine.1,
          longer_right me.0.log me.0.note m mine.0 mine.1,
        ),
      )

  -- the keeper compares what it noted
  pub compares : (slots id : ℕ) (me : Me ℕ (View E)) → me.0.keeps ≡ true
      → Allows KeepsRule slots id me 0 (λ k. k)
      (Compared (step slots 0 0 0 mathlib.Core.Option.none) me)
  compares slots id me keeper s kept len at fits =
      let m = kept.0 in
      let mine = kept.2.all id me.0 at in
      let here : me.0.log ≡ m = (mine.2 keeper).1 in
      let w : View E = keeper_view me.0.log (me.0.came ++ me.0.own) in (
        w,
        keeps,
        tt,
        (
          m,
          ap (λ (ws : List ℕ). slice_set ws 0 (slice_index ws 0)) kept.1,
          turned m m s.views id me.0 w kept.2 at (sym keeper) (prefix_self m) (λ _. refl) mine.0
              (nothing m) (λ _. here),
          numbers.fewer m m s.views id me.0 w kept.3 at (prefix_self m)
              (λ k. numbers.took_back k me.0.log me.0),
        ),
        (
          refl,
          subst (λ (l : List E). IsPrefix me.0.note l) (sym here) mine.1,
          numbers.apart m s.views id me.0 kept.3 at,
        ),
      )

  -- the keeper adds entries
  pub raises : (slots id : ℕ) (me : Me ℕ (View E)) (more : List E) (next : ℕ)
      → me.0.keeps ≡ true → next ≡ length (me.0.log ++ more)
      → Allows KeepsRule slots id me 0 (λ _. next)
      (λ _. Raised more (step slots 0 next 0 mathlib.Core.Option.none) me next)
  raises slots id me more next keeper long s kept len at fits =
      let m = kept.0 in
      let mine = kept.2.all id me.0 at in
      let here : me.0.log ≡ m = (mine.2 keeper).1 in
      let n : List E = me.0.log ++ more in
      let w : View E = raised more me.0 in (
        w,
        keeps,
        tt,
        (
          n,
          ap (λ (ws : List ℕ). slice_set ws 0 next) kept.1 ∙ ap (λ (k : ℕ). k ∷ []) long,
          turned m n s.views id me.0 w kept.2 at (sym keeper)
              (more, ap (λ (l : List E). l ++ more) (sym here))
              (λ k. absurd (off (sym k ∙ keeper))) (prefix_self n) (nothing n) (λ _. refl),
          numbers.raises m more s.views id me.0 kept.3 at here,
        ),
        (refl, subst (λ (l : List E). IsPrefix me.0.note l) (sym here) mine.1),
      )

  -- a new seat that is told what another knows
  pub tells : (id : ℕ) (v : View E) → Splits KeepsRule id v v (note_of v)
  tells id v s kept at =
      let m = kept.0 in
      let mine = kept.2.all id v at in
      let same = turned m m s.views id v v kept.2 at refl (prefix_self m) (λ _. refl) mine.0 mine.1
      (λ k. (mine.2 k).1) in (
        m,
        kept.1,
        added m (set s.views id v) (note_of v) same refl mine.0 (nothing m),
        numbers.shared m s.views id v v (note_of v) kept.3 at (λ k. omega arith),
      )

  -- a new seat that gets the numbers that another noted
  pub hands : (id : ℕ) (v : View E) → Splits KeepsRule id v (left_by v) (handed_by v)
  hands id v s kept at =
      let m = kept.0 in
      let mine = kept.2.all id v at in
      let left = turned m m s.views id v (left_by v) kept.2 at refl (prefix_self m) (λ _. refl)
      mine.0 mine.1 (λ k. (mine.2 k).1) in (
        m,
        kept.1,
        added m (set s.views id (left_by v)) (handed_by v) left refl mine.0 (nothing m),
        numbers.shared m s.views id v (left_by v) (handed_by v) kept.3 at (λ k. omega arith),
      )

  -- a seat notes what another knows, and the other is spent
  pub notes : (id : ℕ) (v : View E) (other : ℕ) (w : View E) → w.keeps ≡ false
      → Joins KeepsRule id v other w (noted v w) (reader_view [] [])
  notes id v other w plain s kept at apart there =
      let m = kept.0 in
      let mine = kept.2.all id v at in
      let theirs : IsPrefix w.log m = ⊎_elim
      (λ (t : (other ≡ id) × (noted v w ≡ w)). absurd (apart t.0))
      (λ (t : (other ≢ id) × (get_elem? s.views other ≡ some w)).
      (kept.2.all other w t.1).0)
      (at_set s.views id other (noted v w) w there) in
      let once = turned m m s.views id v (noted v w) kept.2 at refl (prefix_self m) (λ _. refl)
      mine.0 theirs (λ k. (mine.2 k).1) in (
        m,
        kept.1,
        turned m m (set s.views id (noted v w)) other w (reader_view [] []) once there
            (sym plain) (prefix_self m) (λ _. refl) (nothing m) (nothing m)
            (λ k. absurd (off (sym plain ∙ k))),
        numbers.joined m s.views id v (noted v w) other w (reader_view [] []) kept.3 at there
            (λ k. omega arith),
      )
