use Rattle.metrics.proofs.Joins.{grown, joined}
use Rattle.metrics.specs.Metrics.{class_outcomes_text}
use Rattle.metrics.proofs.by_class.push_class_outcomes.Goals as goal

pub returns : goal.returns
unfolding class_outcomes_text
returns c =
    let first = joined _ _ _ _ _ c.in_ok-push_head.ensures c.in_ok-push_class_ended.ensures in
    let second = joined _ _ _ _ _ first c.in_ok-push_class_ended-2.ensures in
    let third = joined _ _ _ _ _ second c.in_ok-push_class_ended-3.ensures in
    let fourth = joined _ _ _ _ _ third c.in_ok-push_class_ended-4.ensures in
    grown c.push_ended.result _ _ _ _ _ fourth c.push_ended.ensures
