use Rattle.std.proofs.Common.{◌<◌, All, subst, sym}
use Rattle.seats.proofs.Numbers.{row_joined}
use Rattle.seats.proofs.row.Row.seat.Goals as goal

pub invariant_of-self : goal.invariant_of-self
invariant_of-self g c =
    rw c.push_back_reserved.ensures.items (
    rw c.push_back_reserved.ensures.len (
    row_joined _ _ _ c.self.invariant
    (subst (λ row. All (λ entry. entry.0 < c.args.number) row.taken) (sym c.self.view_is)
    c.requires.above)
    )
    )
