use Rattle.metrics.proofs.Joins.{grown, joined}
use Rattle.metrics.proofs.exposition.push_by_class.Goals as goal

pub returns : goal.returns
returns c =
    let first = joined _ _ _ _ _ c.in_ok-push_classes.ensures c.in_ok-push_classes-2.ensures in
    let second = joined _ _ _ _ _ first c.in_ok-push_classes-3.ensures in
    let third = joined _ _ _ _ _ second c.in_ok-push_refusals.ensures in
    let fourth = joined _ _ _ _ _ third c.in_ok-push_class_outcomes.ensures in
    grown c.push_class_promoted.result _ _ _ _ _ fourth c.push_class_promoted.ensures
