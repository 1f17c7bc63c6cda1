use Rattle.metrics.proofs.Joins.{grown, joined}
use Rattle.metrics.proofs.exposition.push_program.Goals as goal

pub returns : goal.returns
returns c =
    let head = joined _ _ _ _ _ c.in_ok-push_gauge.ensures c.in_ok-push_head.ensures in
    grown c.push_version.result _ _ _ _ _ head c.push_version.ensures
