use Rattle.std.proofs.Common.{rules, arith}
use Rattle.std.proofs.lemmas.Grind.{common_steps}
use Rattle.seats.proofs.Numbers.{none_there}
use Rattle.seats.proofs.row.place_of.Goals as goal

pub returns-in_err-found-clause-absent : goal.returns-in_err-found-clause-absent
returns-in_err-found-clause-absent g c =
    let none = none_there _ _ _ c.requires.row.in_order c.first_from-at.ensures
    (λ d within same. grind (arith, common_steps, c.requires.row.counted)) in
    search (rules, none)

pub returns-else-found-number-clause-absent : goal.returns-else-found-number-clause-absent
returns-else-found-number-clause-absent g c =
    none_there _ _ _ c.requires.row.in_order c.first_from-at.ensures
    (λ d within same. grind (arith, common_steps, c.in_ok-found.ensures.lookup, same))
