use Rattle.std.proofs.Common.{sym}
use Rattle.metrics.proofs.Joins.{grown, joined}
use Rattle.metrics.proofs.limit_view.push_reckoned.Goals as goal

pub returns : goal.returns
returns c =
    let both = joined _ _ _ _ _ c.in_ok-push_known.ensures c.in_ok-push_known-2.ensures in
    rw (sym c.count_of.ensures, sym c.one_if-by_hand.ensures)
    (grown c.push_gauge.result _ _ _ _ _ both c.push_gauge.ensures)
