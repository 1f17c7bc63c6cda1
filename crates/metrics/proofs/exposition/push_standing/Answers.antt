use Rattle.metrics.proofs.Joins.{grown, joined}
use Rattle.metrics.proofs.exposition.push_standing.Goals as goal

pub returns : goal.returns
returns c =
    let second = joined _ _ _ _ _ c.in_ok-push_gauge.ensures c.in_ok-push_gauge-2.ensures in
    let third = joined _ _ _ _ _ second c.in_ok-push_gauge-3.ensures in
    grown c.push_gauge-4.result _ _ _ _ _ third c.push_gauge-4.ensures
