use Rattle.seats.proofs.Numbers.{row_left}
use Rattle.seats.proofs.row.Row.take_first.Goals as goal

pub invariant_of-self : goal.invariant_of-self
invariant_of-self g c =
    row_left c.pop_front.result _ _ _ _ c.self.invariant c.pop_front.ensures.items
    c.pop_front.ensures.len
