use Rattle.std.proofs.Common.{sym, subst}
use Rattle.shared_gate.specs.Calls.{Gets}
use Rattle.shared_gate.proofs.Getting.{gets}
use Rattle.shared_gate.proofs.gate.SharedGate.acquire.Goals as goal

pub into_got-requires : goal.into_got-requires
into_got-requires g c =
    (gets _ _ c.args.part c.args.bypass c.args.wait c.args.now _ c.step.ensures).0

pub returns : goal.returns
returns g c =
    subst (Gets c.args.pass.now c.step.new.pass c.args.part c.args.bypass c.args.wait c.args.now)
    (sym c.into_got.ensures)
    (gets _ _ c.args.part c.args.bypass c.args.wait c.args.now _ c.step.ensures).1
