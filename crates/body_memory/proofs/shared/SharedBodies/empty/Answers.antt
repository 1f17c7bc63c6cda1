use Rattle.std.proofs.Common.{arith, ap, sym, ◌∙◌}
use Rattle.body_memory.proofs.Moves.{empties}
use Rattle.body_memory.proofs.shared.SharedBodies.empty.Goals as goal

pub fetch_sub-requires : goal.fetch_sub-requires
fetch_sub-requires c = (
  c.requires.table ∙ ap (λ s. s.table) (sym c.self.view_is),
  omega (arith, c.self.invariant.0.0),
  empties _ _ _ _ _ c.requires.all,
)
