use Rattle.std.proofs.Common.{ap, ◌∙◌}
use Rattle.load_driver.specs.Session.{Session, open_in}
use Rattle.load_driver.proofs.Sessions.{own_number}
use Rattle.load_driver.proofs.session.Session.permit.Goals as goal

pub returns-clause-found : goal.returns-clause-found
returns-clause-found g c =
    c.permit_of.ensures
    ∙ ap (λ (s : Session g.row.L.Denot). open_in s c.args.number) c.self.view_is

pub returns-clause-own : goal.returns-clause-own
returns-clause-own g c =
    own_number g.L.Limit.rules c.self.inside.journal c.self.inside.permits c.self.invariant
    c.args.number c.permit_of.result c.permit_of.ensures
