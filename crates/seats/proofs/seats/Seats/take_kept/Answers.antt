use Rattle.seats.proofs.Taken.{kept_less}
use Rattle.seats.proofs.seats.Seats.take_kept.Goals as goal

pub invariant_of-self : goal.invariant_of-self
invariant_of-self g c = rw c.take.ensures.others (kept_less _ _ _ _ _ c.self.invariant)
