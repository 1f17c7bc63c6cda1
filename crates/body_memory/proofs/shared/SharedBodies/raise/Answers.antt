use Rattle.std.proofs.Common.{arith, ap, sym, ◌∙◌}
use Rattle.body_memory.proofs.Moves.{grows}
use Rattle.body_memory.proofs.shared.SharedBodies.raise.Goals as goal

pub compare_exchange-requires : goal.compare_exchange-requires
compare_exchange-requires c =
    let bound = ap (λ s. s.bound) c.self.view_is in (
      c.requires.table ∙ ap (λ s. s.table) (sym c.self.view_is),
      omega (arith, c.self.invariant.0.0),
      grows _ _ _ _ _ _ c.requires.more
          (omega (arith, c.requires.bounded, bound, c.self.invariant.1)),
    )
