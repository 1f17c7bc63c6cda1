-- What the step of an ending adds.
use Rattle.std.proofs.Common.{◌≡◌, ℕ, ◌∷◌, Some, ap, ◌∙◌}
use Rattle.limiter_core.specs.declared.event.Event.TheVariants.{End}
use Rattle.limiter_core.specs.declared.event.Outcome.{Outcome}
use Rattle.limiter_core.specs.declared.event.Reply.{Reply}
use Rattle.limiter_core.specs.declared.event.Entry.TheVariants.{Call}
use Rattle.limiter_core.specs.declared.event.PermitFacts.{PermitFacts}
use Rattle.gate_port.specs.Ending.{Ends}
use Rattle.gate_port.specs.Shown.{Adds, Shown, next_of}
use Rattle.ports.specs.Solo.{Records}

pub ends : (permit : PermitFacts) (outcome : Outcome) (now number : ℕ) (old new : Shown) (r : Reply)
    → Adds (Some old) (Some new)
    (λ s added. (number ≡ next_of s) × Records (End permit outcome now) r added)
    → Ends permit outcome now (Some old) (Some new)
ends permit outcome now number old new r adds = (
  adds.0,
  λ (same : new.base ≡ old.base).
      let one = adds.1 same in
      let records : Records (End permit outcome now) r one.0 = one.2.1 in (
        one.0,
        one.1,
        (
          records.0,
          records.1,
          records.3 ∙ ap (λ (x : Reply). Call (End permit outcome now) x ∷ records.0) records.2,
        ),
      ),
  adds.2,
  adds.3,
)
