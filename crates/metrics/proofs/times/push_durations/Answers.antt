use Rattle.metrics.proofs.Joins.{grown, joined}
use Rattle.metrics.proofs.times.push_durations.Goals as goal

pub returns : goal.returns
returns c =
    let first = joined _ _ _ _ _ c.in_ok-push_times.ensures c.in_ok-push_times-2.ensures in
    grown c.push_times-3.result _ _ _ _ _ first c.push_times-3.ensures
