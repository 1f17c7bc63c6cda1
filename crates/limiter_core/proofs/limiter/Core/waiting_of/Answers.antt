use Rattle.std.proofs.Common.{◌∙◌, ap}
use Rattle.partitions.specs.Table.{place_of}
use Rattle.lifo_backlog.specs.Sharing.{waiting_at}
use Rattle.limiter_core.proofs.limiter.Core.waiting_of.Goals as goal

pub returns : goal.returns
returns g c =
    let s = c.self.inside.state in
    c.count.ensures
    ∙ c.self.invariant.0.queued.1 c.place.result
    ∙ ap (waiting_at s.table s.backlog.waiting) c.place.ensures.place
    ∙ ap (λ core. waiting_at core.rows core.waiters (place_of core.rows c.args.part))
    c.self.view_is
