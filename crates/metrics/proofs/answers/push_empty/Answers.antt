use Rattle.metrics.proofs.Joins.{grown}
use Rattle.metrics.proofs.answers.push_empty.Goals as goal

pub returns : goal.returns
returns c = grown c.push_number.result _ _ _ _ _ c.in_ok-push_head.ensures c.push_number.ensures
