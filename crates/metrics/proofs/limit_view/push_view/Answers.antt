use Rattle.metrics.proofs.Joins.{grown}
use Rattle.metrics.proofs.limit_view.push_view.Goals as goal

pub returns : goal.returns
returns c =
    grown c.push_reckoned.result _ _ _ _ _ c.in_ok-push_times.ensures c.push_reckoned.ensures
