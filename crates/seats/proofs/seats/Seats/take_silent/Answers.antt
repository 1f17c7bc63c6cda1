use Rattle.seats.proofs.Taken.{silent_less}
use Rattle.seats.proofs.seats.Seats.take_silent.Goals as goal

pub invariant_of-self : goal.invariant_of-self
invariant_of-self g c = rw c.take.ensures.others (silent_less _ _ _ _ _ c.self.invariant)
