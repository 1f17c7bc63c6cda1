use Rattle.std.proofs.Common.{List, sym, ap, map, ◌∙◌}
use Rattle.limiter_core.specs.declared.event.Promotion.{Promotion}
use Rattle.limiter_core.specs.History.{image_after}
use Rattle.limiter_core.specs.Limiter.{entry_of}
use Rattle.limiter_core.specs.Standing.{gate_in, stands_in}
use Rattle.limiter_core.proofs.ImageJoins.{image_nil}
use Rattle.limiter_core.proofs.state.State.promote_waiters.Goals as goal

pub returns-else-not-is_empty-clause-stands : goal.returns-else-not-is_empty-clause-stands
returns-else-not-is_empty-clause-stands g c =
    let s = c.args.self.now in
    sym (ap (λ (ps : List Promotion).
    image_after (gate_in g.L.Limit.rules s) (stands_in s) (map entry_of ps)) c.requires.none
    ∙ image_nil (gate_in g.L.Limit.rules s) (stands_in s))
