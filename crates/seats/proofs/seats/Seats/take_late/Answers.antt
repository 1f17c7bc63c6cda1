use Rattle.seats.proofs.Taken.{late_leaves, silent_leaves}
use Rattle.seats.proofs.seats.Seats.take_late.Goals as goal

pub invariant_of-self : goal.invariant_of-self
invariant_of-self g c =
    silent_leaves _ _ _ _ _ _ c.self.invariant c.in-Some.ensures.first.2 c.in-Some.ensures.room

pub invariant_of-self-2 : goal.invariant_of-self-2
invariant_of-self-2 g c =
    late_leaves c.take_late-2.result c.self.inside.silent c.self.inside.kept c.take_late.new.self
    c.take_late-2.new.self _ _ c.self.invariant c.in_default.ensures.unchanged
    c.take_late-2.ensures.first c.take_late-2.ensures.room c.take_late-2.ensures.unchanged
