use Rattle.std.proofs.Common.{arith}
use Rattle.std.proofs.lemmas.Grind.{common_steps}
use Rattle.seats.proofs.Taken.{all_seated, seating}
use Rattle.seats.proofs.seats.Seats.seat.Goals as goal

pub invariant_of-self : goal.invariant_of-self
invariant_of-self g c =
    (all_seated
    (seating c.self.inside.count c.self.inside.next c.self.inside.silent c.self.inside.kept) _
    c.args.is_kept c.make_room-displaced.result _ _ _ _ c.self.invariant c.seat_in.ensures
    c.make_room-displaced.ensures).invariant

pub returns-clause-own : goal.returns-clause-own
returns-clause-own g c = grind (arith, common_steps)

pub returns-clause-full : goal.returns-clause-full
returns-clause-full g c = grind (arith, common_steps)
