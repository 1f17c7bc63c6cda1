-- What a port over a shared gate tells, by its pass.
use Rattle.std.specs.Prelude.{◌≡◌, ◌⊎◌, ℕ, ◌+◌, ◌<◌, ◌≤◌, true, false}
use Rattle.limit_laws.specs.Facts.{moment}
use Rattle.limiter_core.specs.declared.event.PermitFacts.{PermitFacts}
use Rattle.limiter_core.specs.History.{permit_of}
use Rattle.shared_gate.specs.Calls.{Pass, seen_by}
use Rattle.gate_port.specs.declared.port.Why.TheVariants as why
use Rattle.gate_port.specs.declared.port.Admission.{Admission}
use Rattle.gate_port.specs.declared.port.Admission.TheVariants.{Admitted, Bypassed, Refused}
use Rattle.gate_port.specs.Asking.{Ask}

-- a permit that was got at once is of the part that was asked for, from the moment on
abbrev pub IsOwn : Ask → ℕ → PermitFacts → Type 0
IsOwn ask now permit = permit ≡ permit_of permit.number ask.part (moment now) permit.inflight

-- so many calls were made by the pass, which has seen greater numbers since
abbrev pub Makes : ℕ → Pass → Pass → Type 0
Makes calls before after =
    (after.count ≡ before.count + calls) × (seen_by before < seen_by after)

-- WHAT IS TOLD of an asking, from a pass before it to the pass after it: one call, or after waiting
-- a second one; none where the history is exhausted. A permit's number is no less than the calls
-- before and than what the pass had seen, and the pass has seen it now
abbrev pub IsTold : Pass → Pass → Ask → ℕ → Admission PermitFacts → Type 0
IsTold before after ask now (Admitted permit) =
    (ask.bypass ≡ false) × (before.count ≤ permit.number)
    × (seen_by before ≤ permit.number) × (permit.number < seen_by after)
    × ((Makes 1 before after × IsOwn ask now permit)
    ⊎ (Makes 2 before after × (ask.wait ≡ true)))
IsTold before after ask now Bypassed = Makes 1 before after × (ask.bypass ≡ true)
IsTold before after ask now (Refused why.Full) =
    Makes 1 before after × (ask.bypass ≡ false) × (ask.wait ≡ false)
IsTold before after ask now (Refused why.BacklogFull) =
    Makes 1 before after × (ask.wait ≡ true)
IsTold before after ask now (Refused why.TimedOut) = Makes 2 before after × (ask.wait ≡ true)
IsTold before after ask now (Refused why.Lost) =
    (Makes 1 before after ⊎ Makes 2 before after) × (ask.wait ≡ true)
IsTold before after ask now (Refused why.Exhausted) =
    (after.count ≡ before.count) × (seen_by before ≤ seen_by after)
