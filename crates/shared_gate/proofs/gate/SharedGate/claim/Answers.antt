use Rattle.std.proofs.Common.{sym, subst}
use Rattle.shared_gate.specs.Calls.{Claims}
use Rattle.shared_gate.proofs.Getting.{claims}
use Rattle.shared_gate.proofs.gate.SharedGate.claim.Goals as goal

pub into_claimed-requires : goal.into_claimed-requires
into_claimed-requires g c = (claims _ _ c.args.ticket _ c.step.ensures).0

pub returns : goal.returns
returns g c =
    subst (Claims c.args.pass.now c.step.new.pass c.args.ticket) (sym c.into_claimed.ensures)
    (claims _ _ c.args.ticket _ c.step.ensures).1
