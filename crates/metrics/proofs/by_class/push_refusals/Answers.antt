use Rattle.metrics.proofs.Joins.{grown, joined}
use Rattle.metrics.specs.Metrics.{refusals_text}
use Rattle.metrics.proofs.by_class.push_refusals.Goals as goal

pub returns : goal.returns
unfolding refusals_text
returns c =
    let first = joined _ _ _ _ _ c.in_ok-push_head.ensures c.in_ok-push_class_refused.ensures in
    let second = joined _ _ _ _ _ first c.in_ok-push_class_refused-2.ensures in
    let third = joined _ _ _ _ _ second c.in_ok-push_class_refused-3.ensures in
    let fourth = joined _ _ _ _ _ third c.in_ok-push_class_refused-4.ensures in
    grown c.push_refused.result _ _ _ _ _ fourth c.push_refused.ensures
