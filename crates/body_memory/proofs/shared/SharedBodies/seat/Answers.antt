use Rattle.std.proofs.Common.{arith}
use Rattle.body_memory.specs.Rule.{holding}
use Rattle.body_memory.proofs.Moves.{enters}
use Rattle.body_memory.proofs.shared.SharedBodies.seat.Goals as goal

pub load_new_seat-seat-requires : goal.load_new_seat-seat-requires
load_new_seat-seat-requires c = (omega (arith, c.self.invariant.0.0), enters _ _ (holding 0))
