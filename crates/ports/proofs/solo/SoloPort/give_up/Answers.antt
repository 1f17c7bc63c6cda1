use Rattle.std.proofs.Common.{sym, subst}
use Rattle.ports.specs.Solo.{GivesUp}
use Rattle.ports.proofs.Getting.{gives_up}
use Rattle.ports.proofs.solo.SoloPort.give_up.Goals as goal

pub into_gave_up-requires : goal.into_gave_up-requires
into_gave_up-requires g c = (gives_up g.L.Limit.rules _ _ c.args.ticket _ c.step.ensures).0

pub returns : goal.returns
returns g c =
    subst (GivesUp g.L.Limit.rules c.args.self.now.book.journal c.step.new.self.book.journal
    c.args.ticket) (sym c.into_gave_up.ensures)
    (gives_up g.L.Limit.rules _ _ c.args.ticket _ c.step.ensures).1
