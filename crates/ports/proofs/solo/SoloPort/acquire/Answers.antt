use Rattle.std.proofs.Common.{sym, subst}
use Rattle.ports.specs.Solo.{Gets}
use Rattle.ports.proofs.Getting.{gets}
use Rattle.ports.proofs.solo.SoloPort.acquire.Goals as goal

pub into_got-requires : goal.into_got-requires
into_got-requires g c =
    (gets g.L.Limit.rules _ _ c.args.part c.args.bypass c.args.wait c.args.now _
    c.step.ensures).0

pub returns : goal.returns
returns g c =
    subst (Gets g.L.Limit.rules c.args.self.now.book.journal c.step.new.self.book.journal
    c.args.part c.args.bypass c.args.wait c.args.now) (sym c.into_got.ensures)
    (gets g.L.Limit.rules _ _ c.args.part c.args.bypass c.args.wait c.args.now _
    c.step.ensures).1
