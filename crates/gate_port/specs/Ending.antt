-- Ending a permit.
use Rattle.std.specs.Prelude.{◌≡◌, ℕ, List, ◌∷◌, length, Option, ⊤, All}
use Rattle.limiter_core.specs.declared.event.Event.TheVariants.{End}
use Rattle.limiter_core.specs.declared.event.Outcome.{Outcome}
use Rattle.limiter_core.specs.declared.event.Reply.TheVariants.{Ended}
use Rattle.limiter_core.specs.declared.event.Entry.{Entry}
use Rattle.limiter_core.specs.declared.event.Entry.TheVariants.{Call, Promotion}
use Rattle.limiter_core.specs.declared.event.PermitFacts.{PermitFacts}
use Rattle.gate_port.specs.Shown.{Shown, Adds}

abbrev pub IsPromotion : Entry → Type 0
IsPromotion (Call event reply) = ⊥
IsPromotion (Promotion waiter part start inflight) = ⊤

-- the entries of an ending: its call, answered with how many were promoted, and their promotions
abbrev pub IsEnding : PermitFacts → Outcome → ℕ → List Entry → Type 0
IsEnding permit outcome now added =
    (promotions : List Entry) × All IsPromotion promotions
    × (added ≡ Call (End permit outcome now) (Ended (length promotions)) ∷ promotions)

-- A PORT ENDS a permit: the entries of an ending are added
abbrev pub Ends : PermitFacts → Outcome → ℕ → Option Shown → Option Shown → Type 0
Ends permit outcome now old new = Adds old new (λ before added. IsEnding permit outcome now added)
