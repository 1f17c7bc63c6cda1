use Rattle.std.proofs.Common.{sym, subst}
use Rattle.shared_gate.specs.Calls.{GivesUp}
use Rattle.shared_gate.proofs.Getting.{gives_up}
use Rattle.shared_gate.proofs.gate.SharedGate.give_up.Goals as goal

pub into_gave_up-requires : goal.into_gave_up-requires
into_gave_up-requires g c = (gives_up _ _ c.args.ticket _ c.step.ensures).0

pub returns : goal.returns
returns g c =
    subst (GivesUp c.args.pass.now c.step.new.pass c.args.ticket) (sym c.into_gave_up.ensures)
    (gives_up _ _ c.args.ticket _ c.step.ensures).1
