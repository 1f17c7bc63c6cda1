use Rattle.std.proofs.Common.{arith, ap, sym, ◌∙◌}
use Rattle.body_memory.proofs.Moves.{looks}
use Rattle.body_memory.proofs.shared.SharedBodies.look.Goals as goal

pub load-requires : goal.load-requires
load-requires c = (
  c.requires.table ∙ ap (λ s. s.table) (sym c.self.view_is),
  omega (arith, c.self.invariant.0.0),
  looks _ _ _ _,
)
