-- The giving ups that are pending have different numbers, which were given out.
use Rattle.std.proofs.Common.{◌≡◌, ℕ, ◌<◌, true, List, [], ◌∷◌, ◌++◌, length, Option, None, Some}
use Rattle.std.proofs.Common.{is_some, slice_get, sym, ◌∙◌, ⊎_elim, ◌⊎◌, inl, inr, length-append}
use Rattle.std.proofs.Common.{arith}
use Rattle.std.specs.Prelude.{option_and_then}
use Rattle.std.proofs.lemmas.Bool.{cases_eq}
use Rattle.limiter_core.specs.declared.event.Entry.{Entry}
use Rattle.trace.specs.declared.arrival.Arrival.{Arrival}
use Rattle.virtual_time.specs.declared.action.Kind.TheVariants.{GivingUp}
use Rattle.virtual_time.specs.declared.action.Action.{Action}
use Rattle.virtual_time.specs.declared.action.Step.{Step}
use Rattle.virtual_time.specs.Pending.{IsPending, left, arriving}
use Rattle.virtual_time.specs.Course.{Limiter, Course, IsCourse, begin, more, answered, step_of}
use Rattle.virtual_time.proofs.Pendings.{pending_by_arrival, pending_elsewhere, left_number}
use Rattle.virtual_time.proofs.Pendings.{left_answered}
use Rattle.virtual_time.proofs.Courses.{replied}

module _ (arrivals : List Arrival) (timeout : ℕ) where
  pub record AreNumbered (steps : List Step) (entries : List Entry) : Type 0 where
    pub below : (d : Action) → IsPending arrivals timeout steps d → d.kind ≡ GivingUp
        → d.number < length entries
    pub one : (d e : Action) → IsPending arrivals timeout steps d
        → IsPending arrivals timeout steps e → d.kind ≡ GivingUp → e.kind ≡ GivingUp → d.number
        ≡ e.number → d.place ≡ e.place

  to_come : (d : Action) (o : Option Arrival)
      → option_and_then (λ (a : Arrival). Some (arriving a d.place)) o ≡ Some d → d.kind ≡ GivingUp
      → ⊥
  to_come d None h waits = cc
  to_come d (Some a) h waits = cc

  none_yet : AreNumbered [] []
  none_yet = record {
    below = λ d h waits. absurd (to_come d (slice_get arrivals d.place) h waits);
    one = λ d e h k waits waits_too same. absurd (to_come d (slice_get arrivals d.place) h waits);
  }

  left_of : (s : Step) (e : Action) (o : Option Arrival)
      → option_and_then (λ (a : Arrival). left timeout a s) o ≡ Some e → e.kind ≡ GivingUp
      → (e.number ≡ s.first) × (is_some s.reply ≡ true)
  left_of s e None h waits = cc
  left_of s e (Some a) h waits = (
    left_number timeout a s s.action.kind s.reply e h waits,
    left_answered timeout a s s.action.kind
        s.reply e h,
  )

  module _ (steps : List Step) (entries : List Entry) (before : AreNumbered steps entries)
      (d : Action) (told : List Entry) where
    abbrev s : Step
    s = step_of d entries told

    -- a giving up that is pending then came with the step, or was pending before
    came : (e : Action) → IsPending arrivals timeout (steps ++ s ∷ []) e → e.kind ≡ GivingUp
        → ((e.place ≡ d.place) × (e.number ≡ length entries) × (0 < length told))
        ⊎ IsPending arrivals timeout steps e
    came e h waits = ⊎_elim
        (λ same.
        let by : option_and_then (λ (a : Arrival). left timeout a s) (slice_get arrivals d.place)
        ≡ Some e = sym (pending_by_arrival steps s arrivals timeout e.place same) ∙ h in
        let parts : (e.number ≡ length entries) × (is_some s.reply ≡ true) =
        left_of s e (slice_get arrivals d.place) by waits in
        inl (same, parts.0, replied told parts.1))
        (λ apart. inr (sym (pending_elsewhere steps s arrivals timeout e.place apart) ∙ h))
        (cases_eq e.place d.place)

    numbered_more : AreNumbered (steps ++ s ∷ []) (entries ++ told)
    numbered_more = record {
      below = λ e h waits. ⊎_elim
          (λ here. omega (arith, here.1, here.2, length-append entries told))
          (λ old. omega (arith, before.below e old waits, length-append entries told))
          (came e h waits);
      one = λ e f h k waits waits_too same. ⊎_elim
          (λ here. ⊎_elim (λ there. here.0 ∙ sym there.0)
          (λ old. absurd (omega (arith, here.1, same, before.below f old waits_too)))
          (came f k waits_too))
          (λ old. ⊎_elim (λ there. absurd (omega (arith, there.1, same, before.below e old waits)))
          (λ older. before.one e f old older waits waits_too same) (came f k waits_too))
          (came e h waits);
    }

  pub numbered : (limiter : Limiter) (c : Course) → IsCourse limiter arrivals timeout c
      → AreNumbered c.steps c.entries
  numbered limiter _ begin = none_yet
  numbered limiter _ (more c d course next) =
      numbered_more c.steps c.entries (numbered limiter c course) d
      (answered limiter c.entries (slice_get arrivals d.place) d).told
