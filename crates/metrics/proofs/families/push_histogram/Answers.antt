use Rattle.metrics.proofs.Joins.{grown, joined}
use Rattle.metrics.proofs.families.push_histogram.Goals as goal

pub returns : goal.returns
returns c =
    let front = joined _ _ _ _ _ c.in_ok-push_head.ensures c.in_ok-push_buckets.ensures in
    grown c.push_totals.result _ _ _ _ _ front c.push_totals.ensures
