-- Who isn't told that the time is over.
use Rattle.std.proofs.Common.{◌≡◌, ◌∙◌, ℕ, false, Option, Some, sym, true≢false}
use Rattle.limiter_core.specs.declared.event.PermitFacts.{PermitFacts}
use Rattle.shared_gate.specs.Calls.{Pass}
use Rattle.gate_port.specs.declared.port.Why.TheVariants as why
use Rattle.gate_port.specs.declared.port.Admission.{Admission}
use Rattle.gate_port.specs.declared.port.Admission.TheVariants.{Admitted, Bypassed, Refused}
use Rattle.gate_port.specs.Asking.{Ask}
use Rattle.gate_port.specs.Log.{IsLate, Known}
use Rattle.ports.specs.AskReplies.{IsTold}

-- who doesn't wait
pub never_late : (before after : Pass) (ask : Ask) (now : ℕ) (known : Known) (deadline : Option ℕ)
    (answer : Admission PermitFacts) → IsTold before after ask now answer → ask.wait ≡ false
    → IsLate deadline (Some known) answer
never_late before after ask now known deadline (Admitted permit) told unasked = tt
never_late before after ask now known deadline Bypassed told unasked = tt
never_late before after ask now known deadline (Refused why.Full) told unasked = tt
never_late before after ask now known deadline (Refused why.BacklogFull) told unasked = tt
never_late before after ask now known deadline (Refused why.TimedOut) told unasked =
    absurd (true≢false (sym told.1 ∙ unasked))
never_late before after ask now known deadline (Refused why.Lost) told unasked = tt
never_late before after ask now known deadline (Refused why.Exhausted) told unasked = tt
