use Rattle.metrics.proofs.Joins.{grown, joined}
use Rattle.metrics.proofs.exposition.push_clients.Goals as goal

pub returns : goal.returns
returns c =
    let counts = joined _ _ _ _ _ c.in_ok-push_head.ensures c.in_ok-push_samples.ensures in
    let both = joined _ _ _ _ _ counts c.in_ok-push_gauge.ensures in
    grown c.push_gauge-2.result _ _ _ _ _ both c.push_gauge-2.ensures
