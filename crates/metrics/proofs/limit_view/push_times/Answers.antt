use Rattle.std.proofs.Common.{sym}
use Rattle.metrics.proofs.Joins.{grown}
use Rattle.metrics.proofs.limit_view.push_times.Goals as goal

pub returns : goal.returns
returns c =
    rw (sym c.mean_of.ensures) (grown c.push_known_seconds-2.result _ _ _ _ _
    c.in_ok-push_known_seconds.ensures c.push_known_seconds-2.ensures)
