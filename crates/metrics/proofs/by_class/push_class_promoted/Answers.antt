use Rattle.metrics.proofs.Joins.{grown, joined}
use Rattle.metrics.specs.Metrics.{class_promoted_text}
use Rattle.metrics.proofs.by_class.push_class_promoted.Goals as goal

pub returns : goal.returns
unfolding class_promoted_text
returns c =
    let first = joined _ _ _ _ _ c.in_ok-push_head.ensures c.in_ok-push_promoted.ensures in
    let second = joined _ _ _ _ _ first c.in_ok-push_promoted-2.ensures in
    let third = joined _ _ _ _ _ second c.in_ok-push_promoted-3.ensures in
    let fourth = joined _ _ _ _ _ third c.in_ok-push_promoted-4.ensures in
    grown c.push_sample.result _ _ _ _ _ fourth c.push_sample.ensures
