use Rattle.metrics.proofs.Joins.{grown}
use Rattle.metrics.proofs.answers.push_responses.Goals as goal

pub returns : goal.returns
returns c = grown c.push_samples.result _ _ _ _ _ c.in_ok-push_head.ensures c.push_samples.ensures
