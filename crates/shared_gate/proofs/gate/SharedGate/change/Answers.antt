use Rattle.std.proofs.Common.{sym, subst}
use Rattle.gate_history.specs.Steps.{event_of}
use Rattle.shared_gate.specs.Calls.{Changes}
use Rattle.shared_gate.proofs.Getting.{changes}
use Rattle.shared_gate.proofs.gate.SharedGate.change.Goals as goal

pub into_receipt-requires : goal.into_receipt-requires
into_receipt-requires g c = (changes _ _ (event_of c.args.call) c.requires _ c.step.ensures).0

pub returns : goal.returns
returns g c =
    subst (Changes c.args.pass.now c.step.new.pass (event_of c.args.call))
    (sym c.into_receipt.ensures)
    (changes _ _ (event_of c.args.call) c.requires _ c.step.ensures).1
