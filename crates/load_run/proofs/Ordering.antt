-- Where the receipts and refusals of an arrival lie, by what its calls tell.
use Rattle.std.proofs.Common.{◌≡◌, ℕ, ◌≤◌, ◌<◌, List, [], ◌∷◌, All, Result, Ok, Err, subst, arith}
use Rattle.std.proofs.lemmas.List.Elements.{All-cons, All-nil}
use Rattle.limiter_core.specs.declared.event.Event.{Event}
use Rattle.gate_ledgers.specs.Receipt.{Told}
use Rattle.gate_history.specs.Refusal.{Refusal}
use Rattle.shared_gate.specs.declared.answers.Waited.TheVariants.{Lost}
use Rattle.shared_gate.specs.Calls.{IsTold, IsUntold, Pass, Waits, seen_by}
use Rattle.trace.specs.declared.arrival.Arrival.{Arrival}
use Rattle.load_run.specs.Worker.{LieBetween}

module _ (from until : ℕ) where
  abbrev Lies : Told → Type 0
  Lies receipt = (from ≤ receipt.number) × (receipt.number < until)

  abbrev Came : Refusal → Type 0
  Came refusal = (from ≤ refusal.next) × (refusal.next ≤ until)

  lie : (told : List Told) → All Lies told → LieBetween from until told []
  lie told has = record { receipts = has; refusals = All-nil Came }

  lie_with : (told : List Told) (refusal : Refusal) → All Lies told → Came refusal
      → LieBetween from until told (refusal ∷ [])
  lie_with told refusal has came =
      record { receipts = has; refusals = All-cons Came refusal [] came (All-nil Came) }

  one : (t : Told) → from ≤ t.number → t.number < until → All Lies (t ∷ [])
  one t first last = All-cons Lies t [] (first, last) (All-nil Lies)

-- one call, and one that isn't answered
pub lie_one : (before after : Pass) (e : Event) (t : Told) → IsTold before after e t
    → LieBetween (seen_by before) (seen_by after) (t ∷ []) []
lie_one before after e t is =
    lie (seen_by before) (seen_by after) (t ∷ [])
    (one (seen_by before) (seen_by after) t is.unseen is.seen)

pub lie_none : (before after : Pass) (e : Event) (r : Refusal) → IsUntold before after e r
    → LieBetween (seen_by before) (seen_by after) [] (r ∷ [])
lie_none before after e r is =
    let from = seen_by before in
    let until = seen_by after in
    lie_with from until [] r (All-nil (Lies from until)) (is.unseen, omega (arith, is.next))

-- a call, and one more
pub lie_two : (before mid : Pass) (until : ℕ) (e : Event) (t u : Told) → IsTold before mid e t
    → seen_by mid ≤ u.number → u.number < until
    → LieBetween (seen_by before) until (t ∷ u ∷ []) []
lie_two before mid until e t u is first last =
    let from = seen_by before in
    lie from until (t ∷ u ∷ [])
    (All-cons (Lies from until) t (u ∷ []) (is.unseen, omega (arith, is.seen, first, last))
    (one from until u (omega (arith, is.unseen, is.seen, first)) last))

-- two calls, and one more
pub lie_three : (before mid then : Pass) (until : ℕ) (e f : Event) (t u v : Told)
    → IsTold before mid e t → IsTold mid then f u → seen_by then ≤ v.number → v.number < until
    → LieBetween (seen_by before) until (t ∷ u ∷ v ∷ []) []
lie_three before mid then until e f t u v is does first last =
    let from = seen_by before in
    lie from until (t ∷ u ∷ v ∷ [])
    (All-cons (Lies from until) t (u ∷ v ∷ [])
    (is.unseen, omega (arith, is.seen, does.unseen, does.seen, first, last))
    (All-cons (Lies from until) u (v ∷ [])
    (omega (arith, is.unseen, is.seen, does.unseen), omega (arith, does.seen, first, last))
    (one from until v
    (omega (arith, is.unseen, is.seen, does.unseen, does.seen, first)) last)))

-- a call that waited, and what its giving up was answered, or that it wasn't
module _ (M : Type 0) (before after : Pass) (a : Arrival) (first : Told) (r : Result Told Refusal)
    (deadline latest : ℕ)
    (told : Waits {M = M} before after a.part a.at deadline latest (Lost first r)) where
  pub lie_lost : (second : Told) → r ≡ Ok second
      → LieBetween (seen_by before) (seen_by after) (first ∷ second ∷ []) []
  lie_lost second is =
      let w = subst (λ (x : Result Told Refusal).
      Waits {M = M} before after a.part a.at deadline latest (Lost first x)) is told in
      lie_two before w.0 (seen_by after) _ first second w.1.0 w.2.unseen w.2.seen

  pub lie_stuck : (spent : Refusal) → r ≡ Err spent
      → LieBetween (seen_by before) (seen_by after) (first ∷ []) (spent ∷ [])
  lie_stuck spent is =
      let from = seen_by before in
      let until = seen_by after in
      let w = subst (λ (x : Result Told Refusal).
      Waits {M = M} before after a.part a.at deadline latest (Lost first x)) is told in
      let queued = w.1.0 in
      let untold = w.2 in
      lie_with from until (first ∷ []) spent
      (one from until first queued.unseen
      (omega (arith, queued.seen, untold.unseen, untold.next)))
      (omega (arith, queued.unseen, queued.seen, untold.unseen), omega (arith, untold.next))
