-- When an event may come: what a test looks at before it asks.
use Rattle.std.proofs.Common.{◌≡◌, ℕ, ◌^◌, ◌<◌, refl, arith}
use Rattle.limiter_core.specs.declared.event.Outcome.{Outcome}
use Rattle.limiter_core.specs.declared.event.PermitFacts.{PermitFacts}
use Rattle.limiter_core.specs.declared.event.Event.{Event}
use Rattle.limiter_core.specs.declared.event.Event.TheVariants.{Acquire, End, Claim, GiveUp}
use Rattle.limiter_core.specs.declared.event.Event.TheVariants.{SetLimit, Reset, Look}
use Rattle.limiter_core.specs.History.{Gate, Image}
use Rattle.limiter_core.specs.Legal.{MayCome}
use Rattle.limiter_core.specs.Bound.{IsNumbered}

module _ {S : Type 0} (g : Gate S) (i : Image S) where
  -- what is no ending may always come
  pub other_may_come : (e : Event)
      → ((permit : PermitFacts) (outcome : Outcome) (now : ℕ)
      → e ≡ End permit outcome now → ⊥)
      → MayCome g i e
  other_may_come (End permit outcome now) other = absurd (other permit outcome now refl)
  other_may_come (Acquire part bypass wait now) other = tt
  other_may_come (Claim number) other = tt
  other_may_come (GiveUp number) other = tt
  other_may_come (SetLimit n now) other = tt
  other_may_come (Reset now) other = tt
  other_may_come (Look part) other = tt

  -- below 2^62 each event has its number
  pub numbered_below : (e : Event) → i.next < 2 ^ 62 → IsNumbered g i e
  numbered_below e below = omega (arith, below)
