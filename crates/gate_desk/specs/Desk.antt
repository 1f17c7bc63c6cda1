-- What an operator sees and does at the desk of a gateway.
use Rattle.std.specs.Prelude.{◌≡◌, ⊤, ℕ, Bool, true, false, Result, Ok, Err}
use Rattle.limit_laws.specs.Algorithm.{Algorithm}
use Rattle.limit_laws.specs.declared.limit.Limit.{Ghosts as LimitGhosts}
use Rattle.limit_laws.specs.declared.limit.SetFault.TheVariants.{NotSettable, OutOfRange}
use Rattle.limiter_core.specs.declared.event.Event.{Event}
use Rattle.limiter_core.specs.declared.event.Event.TheVariants.{SetLimit, Reset}
use Rattle.limiter_core.specs.declared.event.Reply.{Reply}
use Rattle.limiter_core.specs.declared.event.Reply.TheVariants.{Refused}
use Rattle.gate_ledgers.specs.Making.{Making}
use Rattle.gate_ledgers.specs.Receipt.{Told}
use Rattle.gate_history.specs.Refusal.{Refusal}
use Rattle.shared_gate.specs.declared.naming.GateNaming.{Ghosts as NamingGhosts}
use Rattle.shared_gate.specs.Calls.{Changes, Pass}
use Rattle.shared_gate.specs.Reported.{IsReportTo}
use Rattle.operator_serving.specs.declared.desk.ChangeFault.{ChangeFault}
use Rattle.operator_serving.specs.declared.desk.ChangeFault.TheVariants as fault
use Rattle.operator_serving.specs.Desk.{Deed, Sight}
use Rattle.operator_serving.specs.Desk.Deed.{Reported, SetTo, Begun, Drained, DrainedAfter}
use Rattle.operator_serving.specs.Desk.Sight.{Notes, Accepts}
use Rattle.gate_desk.specs.declared.desk.GateDesk.{GateDesk}
use Rattle.gate_desk.specs.State.{DeskState, once_shut, state_of, with_pass}

-- what became of a change, by its reply
abbrev pub by_reply : Reply → Result (Unit {0}) ChangeFault
by_reply (Refused NotSettable) = Err fault.NotSettable
by_reply (Refused OutOfRange) = Err fault.OutOfRange
by_reply reply = Ok tt

-- or by its receipt, or none where the history is exhausted
abbrev pub outcome_of : Result Told Refusal → Result (Unit {0}) ChangeFault
outcome_of (Ok receipt) = by_reply receipt.reply
outcome_of (Err refusal) = Err fault.Exhausted

-- where clients come from isn't told as open once it was closed at this desk
abbrev pub ShownBy : Bool → Sight → Type 0
ShownBy shut (Notes noted) = ⊤
ShownBy shut (Accepts accepts) = shut ≡ true → accepts ≡ false

-- a step of the history, by the desk's own pass, at some moment
abbrev pub Steps : Pass → Pass → (ℕ → Event) → Result (Unit {0}) ChangeFault → Type 0
Steps before after event outcome =
    (now : ℕ) × (told : Result Told Refusal) × Changes before after (event now) told
    × (outcome ≡ outcome_of told)

-- what carries a desk is as it was before
pub record IsSameDesk {G M R L C W : Type 0} {g : LimitGhosts G} {m : NamingGhosts M}
    (before after : GateDesk G M R L C W g m) : Type 0 where
  pub rt : after.rt ≡ before.rt
  pub gate : after.gate ≡ before.gate
  pub watch : after.watch ≡ before.watch
  pub own : after.own ≡ before.own
  pub lame_duck : after.lame_duck ≡ before.lame_duck
  pub clock : after.clock ≡ before.clock
  pub most : after.most ≡ before.most

-- WHAT IS DONE, by the desk's pass and by whether it has closed where clients come from: a report
-- has a log that begins with what the pass knew, which knows that log then, so that it shows what
-- was changed at the desk before; a change of the limit is one step of the history, and lets
-- clients come as before; a drain is none, and closes where they come from. All else stays
abbrev pub IsDone : {S L : Type 0} → Algorithm S → Making → (L → Type 0)
    → DeskState L → DeskState L → Deed → Type 0
IsDone rules made closed before after (Reported report) =
    IsReportTo rules made before.pass after.pass report × (after ≡ with_pass after.pass before)
IsDone rules made closed before after (SetTo n outcome) =
    Steps before.pass after.pass (SetLimit n) outcome × (after ≡ with_pass after.pass before)
IsDone rules made closed before after (Begun outcome) =
    Steps before.pass after.pass Reset outcome × (after ≡ with_pass after.pass before)
IsDone rules made closed before after Drained =
    (after ≡ once_shut before) × closed before.front
IsDone rules made closed before after (DrainedAfter delay) =
    (after ≡ once_shut before) × closed before.front

abbrev pub DoneBy : {S G M R L C W : Type 0} {g : LimitGhosts G} {m : NamingGhosts M}
    → Algorithm S → Making → (L → Type 0)
    → GateDesk G M R L C W g m → GateDesk G M R L C W g m → Deed → Type 0
DoneBy rules made closed before after deed =
    IsDone rules made closed (state_of before) (state_of after) deed × IsSameDesk before after
