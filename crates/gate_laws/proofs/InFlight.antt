-- What was admitted or promoted, and wasn't ended, is in flight.
use Rattle.std.proofs.Common.{◌≡◌, ◌≤◌, ◌<◌, ℕ, suc, ◌+◌, ◌==◌, Bool, true, false, List, [], ◌∷◌}
use Rattle.std.proofs.Common.{◌++◌, length, Some, count_by, refl, subst, arith}
use Rattle.std.proofs.Common.{eqb-true}
use Rattle.std.specs.Prelude.{slice_get}
use Rattle.std.proofs.lemmas.List.Sums.{sum_by-append, sum_by-cons}
use Rattle.partitions.specs.Table.{Row, place_of}
use Rattle.limiter_core.specs.declared.event.Event.{Event}
use Rattle.limiter_core.specs.declared.event.Event.TheVariants.{End}
use Rattle.limiter_core.specs.declared.event.Entry.{Entry}
use Rattle.limiter_core.specs.declared.event.Entry.TheVariants.{Call, Promotion}
use Rattle.limiter_core.specs.History.{Gate, Image, enters, image_after, leaves, total}
use Rattle.limiter_core.specs.declared.event.Reply.{Reply}
use Rattle.limiter_core.specs.Answer.{answer, counting, granted_at, moment_of, promoted, reply_to}
use Rattle.limiter_core.specs.Answer.{waits}
use Rattle.limiter_core.specs.Counting.{is_admitted, is_dropped, is_ignored, is_promoted, is_success}
use Rattle.limiter_core.specs.Legal.{IsLegal, MayCome}
use Rattle.limiter_core.specs.Legal.IsLegal.{more, nothing}
use Rattle.gate_laws.proofs.Before.{IsPromoted, promoted_at}
use Rattle.gate_laws.proofs.Entries.{bit, call_enters, call_leaves, over_places, promoted_enters}
use Rattle.gate_laws.proofs.Entries.{right}

pub counted_more : (t : Entry → Bool) (one : Entry) (h : List Entry)
    → count_by t (one ∷ h) ≡ bit (t one) + count_by t h
counted_more t one h = sum_by-cons (λ e. bit (t e)) one h

pub counted_both : (t : Entry → Bool) (h later : List Entry)
    → count_by t (h ++ later) ≡ count_by t h + count_by t later
counted_both t h later = sum_by-append (λ e. bit (t e)) h later

module _ (rows : List Row) (few : length rows ≤ 4) where
  -- the places count each entry that is counted
  pub record Sums (h : List Entry) : Type 0 where
    pub entered : over_places (λ p. count_by (enters rows p) h)
        ≡ count_by is_admitted h + count_by is_promoted h
    pub left : over_places (λ p. count_by (leaves rows p) h)
        ≡ count_by is_success h + count_by is_ignored h + count_by is_dropped h

  sums_more : (e : Entry) (h : List Entry)
      → over_places (λ p. bit (enters rows p e)) ≡ bit (is_admitted e) + bit (is_promoted e)
      → over_places (λ p. bit (leaves rows p e))
      ≡ bit (is_success e) + bit (is_ignored e) + bit (is_dropped e)
      → Sums h → Sums (e ∷ h)
  sums_more e h own out all = record {
    entered = omega (
      arith,
      own,
      all.entered,
      counted_more (enters rows 0) e h,
      counted_more (enters rows 1) e h,
      counted_more (enters rows 2) e h,
      counted_more (enters rows 3) e h,
      counted_more (enters rows 4) e h,
      counted_more is_admitted e h,
      counted_more is_promoted e h,
    );
    left = omega (
      arith,
      out,
      all.left,
      counted_more (leaves rows 0) e h,
      counted_more (leaves rows 1) e h,
      counted_more (leaves rows 2) e h,
      counted_more (leaves rows 3) e h,
      counted_more (leaves rows 4) e h,
      counted_more is_success e h,
      counted_more is_ignored e h,
      counted_more is_dropped e h,
    );
  }

  sums_both : (h later : List Entry) → Sums h → Sums later → Sums (h ++ later)
  sums_both h later own others = record {
    entered = omega (
      arith,
      own.entered,
      others.entered,
      counted_both (enters rows 0) h later,
      counted_both (enters rows 1) h later,
      counted_both (enters rows 2) h later,
      counted_both (enters rows 3) h later,
      counted_both (enters rows 4) h later,
      counted_both is_admitted h later,
      counted_both is_promoted h later,
    );
    left = omega (
      arith,
      own.left,
      others.left,
      counted_both (leaves rows 0) h later,
      counted_both (leaves rows 1) h later,
      counted_both (leaves rows 2) h later,
      counted_both (leaves rows 3) h later,
      counted_both (leaves rows 4) h later,
      counted_both is_success h later,
      counted_both is_ignored h later,
      counted_both is_dropped h later,
    );
  }

  -- promotions enter, and none of them leaves
  abbrev ArePromoted : List Entry → Type 0
  ArePromoted told = (k : ℕ) (entry : Entry) → slice_get told k ≡ Some entry → IsPromoted entry

  sums_promoted : (told : List Entry) → ArePromoted told → Sums told
  sums_promoted [] all = record { entered = refl; left = refl }
  sums_promoted (Call e r ∷ told) all = absurd (all 0 (Call e r) refl)
  sums_promoted (Promotion waiter part start inflight ∷ told) all =
      sums_more (Promotion waiter part start inflight) told
      (promoted_enters rows few waiter part start inflight) refl
      (sums_promoted told (λ k entry here. all (suc k) entry here))

  none_leaves : (p : ℕ) (told : List Entry) → ArePromoted told → count_by (leaves rows p) told ≡ 0
  none_leaves p [] all = refl
  none_leaves p (Call e r ∷ told) all = absurd (all 0 (Call e r) refl)
  none_leaves p (Promotion waiter part start inflight ∷ told) all = omega (
    arith,
    counted_more (leaves rows p) (Promotion waiter part start inflight) told,
    none_leaves p told (λ k entry here. all (suc k) entry here),
  )

module _ {S : Type 0} (g : Gate S) (few : length g.rows ≤ 4) (o : Image S) where
  are_promoted : (h : List Entry) (e : Event) → ArePromoted g.rows few (promoted g o h e)
  are_promoted h e =
      promoted_at g (image_after g o (h ++ Call e (reply_to g (image_after g o h) e) ∷ []))
      (moment_of g.promote e (reply_to g (image_after g o h) e))

  sums_answer : (h : List Entry) (e : Event) → Sums g.rows few (answer g o h e)
  sums_answer h e =
      let i = image_after g o h in
      let n = length (promoted g o h e) in
      let r = counting n (reply_to g i e) in
      sums_more g.rows few (Call e r) (promoted g o h e)
      (call_enters g.rows few (waits i) e r (right g i e n)) (call_leaves g.rows few e r)
      (sums_promoted g.rows few (promoted g o h e) (are_promoted h e))

  all_sums : (h : List Entry) → IsLegal g o h → Sums g.rows few h
  all_sums [] nothing = record { entered = refl; left = refl }
  all_sums _ (more h e before may) =
      sums_both g.rows few h (answer g o h e) (all_sums h before) (sums_answer h e)

  -- at no place more leave than are there
  abbrev IsCovered : ℕ → List Entry → ℕ → Type 0
  IsCovered p h one =
      one + count_by (leaves g.rows p) h ≤ o.inflight p + count_by (enters g.rows p) h

  covered_end : (h : List Entry) (p q : ℕ) (here : Bool) → (q == p) ≡ here
      → granted_at g (image_after g o h) q < (image_after g o h).inflight q
      → IsCovered p h 0 → IsCovered p h (bit here)
  covered_end h p q true is may all =
      let own : granted_at g (image_after g o h) p < (image_after g o h).inflight p =
      subst (λ (it : ℕ). granted_at g (image_after g o h) it < (image_after g o h).inflight it)
      (eqb-true q p is) may in
      omega (arith, own)
  covered_end h p q false is may all = all

  covered_call : (h : List Entry) (p : ℕ) (e : Event) (r : Reply) → MayCome g (image_after g o h) e
      → IsCovered p h 0 → IsCovered p h (bit (leaves g.rows p (Call e r)))
  covered_call h p (End permit outcome now) r may all =
      covered_end h p (place_of g.rows permit.part) (place_of g.rows permit.part == p) refl may all
  covered_call h p _ r may all = all

  covered : (h : List Entry) → IsLegal g o h → (p : ℕ) → IsCovered p h 0
  covered [] nothing p = omega arith
  covered _ (more h e before may) p =
      let told = promoted g o h e in
      let r = counting (length told) (reply_to g (image_after g o h) e) in
      omega (
        arith,
        covered_call h p e r may (covered h before p),
        counted_both (leaves g.rows p) h (answer g o h e),
        counted_more (leaves g.rows p) (Call e r) told,
        none_leaves g.rows few p told (are_promoted h e),
        counted_both (enters g.rows p) h (answer g o h e),
      )

  -- WHAT WAS ADMITTED OR PROMOTED was ended or is in flight, where nothing was at first
  pub in_flight : (h : List Entry) → IsLegal g o h → over_places o.inflight ≡ 0
      → count_by is_admitted h + count_by is_promoted h
      ≡ count_by is_success h + count_by is_ignored h + count_by is_dropped h
      + total (image_after g o h)
  in_flight h legal idle =
      let sums = all_sums h legal in
      omega (
        arith,
        idle,
        sums.entered,
        sums.left,
        covered h legal 0,
        covered h legal 1,
        covered h legal 2,
        covered h legal 3,
        covered h legal 4,
      )
