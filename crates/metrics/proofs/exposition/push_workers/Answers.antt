use Rattle.metrics.proofs.Joins.{grown}
use Rattle.metrics.proofs.exposition.push_workers.Goals as goal

pub returns : goal.returns
returns c = grown c.push_gauge-2.result _ _ _ _ _ c.in_ok-push_gauge.ensures c.push_gauge-2.ensures
