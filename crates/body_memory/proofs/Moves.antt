-- Each step keeps the rule of the bytes that are held.
use Rattle.std.proofs.Common.{◌≡◌, ◌≢◌, ℕ, zero, suc, ◌+◌, ◌-◌, ◌%◌, ◌^◌, ◌<◌, ◌≤◌, List, [], ◌∷◌}
use Rattle.std.proofs.Common.{◌++◌, length, set, refl, sym, ap, ◌∙◌, get_or, arith}
use Rattle.std.proofs.Math.Nat.{add-mod_right, mod-eq_of_lt}
use Rattle.std.specs.Prelude.{slice_index, slice_set, ◌==◌}
use Rattle.std.proofs.lemmas.List.Sums.{sum_by-set, sum_by_push}
use mathlib.Core.Option.{some, none, some-ne-none, some-injective}
use prog.Atomic.{either}
use lib.ListN.{get_elem?}
use Rattle.atomic_table.specs.Table.{State, Me, Act, step, stepped, keeps, carried_after, Allows, Enters, Valid}
use Rattle.atomic_table.proofs.Lists.{exchanged}
use Rattle.body_memory.specs.declared.rule.Holding.{Holding}
use Rattle.body_memory.specs.Rule.{IsBounded, held_by_all, holding, Entered, Looked, Grew, Emptied}

at_within : {A : Type 0} (l : List A) (i : ℕ) (a : A) → get_elem? l i ≡ some a → i < length l
at_within [] i a e = absurd (some-ne-none a (sym e))
at_within (x ∷ xs) zero a e = omega arith
at_within (x ∷ xs) (suc i) a e = let h = at_within xs i a e in omega arith

at_or : {A : Type 0} (l : List A) (i : ℕ) (a : A) → get_elem? l i ≡ some a → get_or l i a ≡ a
at_or [] i a e = refl
at_or (x ∷ xs) zero a e = some-injective _ _ e
at_or (x ∷ xs) (suc i) a e = at_or xs i a e

-- what all hold, after one holds another number
held-set : (views : List Holding) (id : ℕ) (v w : Holding) → get_elem? views id ≡ some v
    → held_by_all (set views id w) + v.held ≡ held_by_all views + w.held
held-set views id v w at =
    ap (λ (z : Holding). held_by_all (set views id w) + z.held) (sym (at_or views id v at))
    ∙ sum_by-set (λ (z : Holding). z.held) views id w v (at_within views id v at)

-- a number of 64 bits, less one that isn't above it
taken_off : (n k : ℕ) → k ≤ n → n < 18446744073709551616 → (n + (2 ^ 64 - k)) % 2 ^ 64 ≡ n - k
taken_off n k below fits =
    let apart : n + (2 ^ 64 - k) ≡ (n - k) + 2 ^ 64 = omega (arith, below, fits) in
    ap (λ (m : ℕ). m % 2 ^ 64) apart ∙ (add-mod_right (n - k) (2 ^ 64)
    ∙ mod-eq_of_lt (omega (arith, below, fits)))

-- nobody holds more than all
pub own_within : (views : List Holding) (id : ℕ) (v : Holding) → get_elem? views id ≡ some v
    → v.held ≤ held_by_all views
own_within views id v at = let e = held-set views id v (holding 0) at in omega (arith, e)

module _ (bound : ℕ) where
  abbrev KeepsRule : State ℕ Holding → Type 0
  KeepsRule s = IsBounded bound s.words s.views

  word_is : (s : State ℕ Holding) → KeepsRule s → slice_index s.words 0 ≡ held_by_all s.views
  word_is s kept = ap (λ (ws : List ℕ). slice_index ws 0) kept.0

  -- one seat holds another number, and the word changes by as much
  changed : (s : State ℕ Holding) (id n : ℕ) (v w : Holding) → KeepsRule s
      → get_elem? s.views id ≡ some v → n + v.held ≡ slice_index s.words 0 + w.held → n ≤ bound
      → IsBounded bound (slice_set s.words 0 n) (set s.views id w)
  changed s id n v w kept at same below =
      let total = held-set s.views id v w at in
      let now : n ≡ held_by_all (set s.views id w) = omega (arith, total, same, word_is s kept) in (
        ap (λ (ws : List ℕ). slice_set ws 0 n) kept.0 ∙ ap (λ (k : ℕ). k ∷ []) now,
        omega (arith, sym now, below),
      )

  pub begins : IsBounded bound (0 ∷ []) (holding 0 ∷ [])
  begins = (refl, omega arith)

  pub enters : (slots : ℕ) (first : Holding) → Enters KeepsRule slots 0
      (λ n w. Entered (step slots 0 0 0 none) (first, []) n (w, []))
  enters slots first s kept len fits =
      let total = sum_by_push (λ (z : Holding). z.held) s.views (holding 0) in
      let same : held_by_all s.views ≡ held_by_all (s.views ++ holding 0 ∷ []) =
      omega (arith, total) in (
        holding 0,
        (kept.0 ∙ ap (λ (k : ℕ). k ∷ []) same, omega (arith, kept.1, same)),
        refl,
      )

  pub looks : (slots id : ℕ) (me : Me ℕ Holding)
      → Allows KeepsRule slots id me 0 (λ k. k) (Looked (step slots 0 0 0 none) me)
  looks slots id me s kept len at fits =
      let own = own_within s.views id me.0 at in
      let word = word_is s kept in (
        me.0,
        keeps,
        tt,
        changed s id (slice_index s.words 0) me.0 me.0 kept at refl (omega (arith, kept.1, word)),
        (refl, omega (arith, own, word)),
      )

  pub grows : (slots id : ℕ) (me : Me ℕ Holding) (old new : ℕ) → old ≤ new → new ≤ bound
      → Allows KeepsRule slots id me 0 (λ n. either (n == old) new n)
      (Grew (step slots 0 old new none) me)
  grows slots id me old new more below s kept len at fits =
      let word = word_is s kept in
      let n = slice_index s.words 0 in
      exchanged n old new Done
      (λ (e : n ≡ old). (
        holding (me.0.held + (new - old)),
        keeps,
        tt,
        changed s id new me.0 (holding (me.0.held + (new - old))) kept at
            (omega (arith, e, more)) below,
        ((λ _. refl), (λ (ne : n ≢ old). absurd (ne e))),
      ))
      (λ (ne : n ≢ old). (
        me.0,
        keeps,
        tt,
        changed s id n me.0 me.0 kept at refl (omega (arith, kept.1, word)),
        ((λ (e : n ≡ old). absurd (ne e)), (λ _. refl)),
      ))
    where
      Done : ℕ → Type 0
      Done k = (w : Holding) × (a : Act ℕ) × Valid s.homes me.1 a
          × KeepsRule (stepped s 0 k id me.1 w a)
          × Grew (step slots 0 old new none) me (slice_index s.words 0) (w, carried_after me.1 a)

  pub empties : (slots id : ℕ) (me : Me ℕ Holding) (k : ℕ) → k ≡ me.0.held
      → Allows KeepsRule slots id me 0 (λ n. (n + (2 ^ 64 - k)) % 2 ^ 64)
      (Emptied (step slots 0 k 0 none) me)
  empties slots id me k all s kept len at fits =
      let own = own_within s.views id me.0 at in
      let word = word_is s kept in
      let n = slice_index s.words 0 in
      let less = taken_off n k (omega (arith, own, word, all)) fits in (
        holding 0,
        keeps,
        tt,
        changed s id ((n + (2 ^ 64 - k)) % 2 ^ 64) me.0 (holding 0) kept at
            (omega (arith, less, own, word, all)) (omega (arith, less, kept.1, word)),
        refl,
      )
