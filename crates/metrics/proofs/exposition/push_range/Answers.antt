use Rattle.metrics.proofs.Joins.{grown, joined}
use Rattle.metrics.proofs.exposition.push_range.Goals as goal

pub returns : goal.returns
returns c =
    let both = joined _ _ _ _ _ c.in_ok-push_gauge.ensures c.in_ok-push_gauge-2.ensures in
    let head = joined _ _ _ _ _ both c.in_ok-push_head.ensures in
    grown c.push_sample.result _ _ _ _ _ head c.push_sample.ensures
