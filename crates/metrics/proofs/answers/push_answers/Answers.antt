use Rattle.metrics.proofs.Joins.{grown, joined}
use Rattle.metrics.proofs.answers.push_answers.Goals as goal

pub returns : goal.returns
returns c =
    let counts = joined _ _ _ _ _ c.in_ok-push_head.ensures c.in_ok-push_samples.ensures in
    grown c.push_seen.result _ _ _ _ _ counts c.push_seen.ensures
