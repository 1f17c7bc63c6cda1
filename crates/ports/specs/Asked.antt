-- What a port over a shared gate keeps of an asking: the receipts of its calls.
use Rattle.std.specs.Prelude.{◌≡◌, ◌≤◌, ⊤, ℕ, Some, Result, Ok, Err}
use Rattle.limiter_core.specs.declared.event.Event.TheVariants.{GiveUp}
use Rattle.limiter_core.specs.declared.event.Reply.TheVariants.{Waiting}
use Rattle.limiter_core.specs.declared.event.PermitFacts.{PermitFacts}
use Rattle.gate_ledgers.specs.Making.{Making}
use Rattle.gate_ledgers.specs.Receipt.{Told}
use Rattle.gate_history.specs.Refusal.{Refusal, exhausted_from}
use Rattle.shared_gate.specs.Calls.{IsTold, IsUntold, Pass}
use Rattle.gate_port.specs.declared.port.Why.TheVariants as why
use Rattle.gate_port.specs.declared.port.Admission.{Admission}
use Rattle.gate_port.specs.declared.port.Admission.TheVariants.{Refused}
use Rattle.gate_port.specs.Asking.{Ask, acquire, says}
use Rattle.gate_port.specs.Log.{Known}
use Rattle.ports.specs.declared.asked.Receipts.{Receipts}
use Rattle.ports.specs.declared.asked.Receipts.TheVariants as asked

-- a port: its pass, what it was told of its last asking, and a moment that its clock has reached
pub record Shared (M : Type 0) : Type 0 where
  pub pass : Pass
  pub asked : Receipts M
  pub reached : ℕ

-- a port with this pass that was told so
abbrev pub port_in : {M : Type 0} → Pass → Receipts M → ℕ → Shared M
port_in pass asked reached = record { pass = pass; asked = asked; reached = reached }

-- what is known by a pass of a gate that is made so, with a clock that has reached this moment
abbrev pub known_at : Making → Pass → ℕ → Known
known_at m pass reached = record {
  log = pass.log;
  own = pass.own;
  exhausted_from = exhausted_from m;
  reached = reached;
}

-- what a port knows: what its pass does
abbrev pub known_by : {M : Type 0} → Making → Shared M → Known
known_by m port = known_at m port.pass port.reached

-- an acquire that waited, and what its giving up was answered
abbrev pub asked_by : {M : Type 0} → Told → Result Told Refusal → Receipts M
asked_by first (Ok second) = asked.GaveUp first second
asked_by first (Err spent) = asked.Missed first spent

-- the receipt of an acquire that waits
abbrev pub IsQueued : Pass → Pass → Ask → ℕ → Told → Type 0
IsQueued before after ask now first =
    IsTold before after (acquire ask now) first × (first.reply ≡ Waiting)

-- THE RECEIPTS OF AN ASKING, from a pass before it to the pass after it, and what its caller is
-- answered: that of an acquire of what was asked for, and what its reply says; or that of one that
-- waits and, by the pass as it was left then, that of the giving up of its number, and what the
-- reply to this says; or a refusal of either, which gets nothing
abbrev pub IsAnswered : {M : Type 0} → Pass → Pass → Ask → ℕ → Receipts M → Admission PermitFacts
    → Type 0
IsAnswered before after ask now asked.Nothing answer = ⊥
IsAnswered before after ask now (asked.Exhausted spent) answer =
    IsUntold before after (acquire ask now) spent × (answer ≡ Refused why.Exhausted)
IsAnswered before after ask now (asked.Answered receipt) answer =
    IsTold before after (acquire ask now) receipt
    × (says ask receipt.number now receipt.reply ≡ Some answer)
IsAnswered before after ask now (asked.GaveUp first second) answer =
    (mid : Pass) × IsQueued before mid ask now first
    × IsTold mid after (GiveUp first.number) second
    × (says ask first.number now second.reply ≡ Some answer)
IsAnswered before after ask now (asked.Missed first spent) answer =
    (mid : Pass) × IsQueued before mid ask now first
    × IsUntold mid after (GiveUp first.number) spent
    × (answer ≡ Refused why.Lost)

-- a call was refused only behind so many entries
abbrev pub IsOver : {M : Type 0} → ℕ → Receipts M → Type 0
IsOver most (asked.Exhausted spent) = most ≤ spent.next
IsOver most (asked.Missed first spent) = most ≤ spent.next
IsOver most _ = ⊤
