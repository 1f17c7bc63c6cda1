use Rattle.load_driver.specs.Session.{open_in}
use Rattle.load_driver.proofs.Named.{own_found}
use Rattle.load_driver.proofs.asked.read_end.Goals as goal

pub returns-in-Some-clause-named : goal.returns-in-Some-clause-named
returns-in-Some-clause-named g c =
    own_found (open_in c.args.session.now) c.args.number c.permit.result c.in-Some.permit
    c.permit.ensures.found c.in-Some.is c.permit.ensures.own
