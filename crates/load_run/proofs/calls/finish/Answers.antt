use Rattle.std.proofs.Common.{rules}
use Rattle.load_run.proofs.calls.finish.Goals as goal

pub returns-clause-event : goal.returns-clause-event
returns-clause-event g c = search rules

pub returns-clause-unseen : goal.returns-clause-unseen
returns-clause-unseen g c = c.end.ensures.0.unseen

pub returns-clause-seen : goal.returns-clause-seen
returns-clause-seen g c = c.end.ensures.0.seen
