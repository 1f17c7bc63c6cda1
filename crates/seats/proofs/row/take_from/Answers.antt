use Rattle.std.proofs.Common.{arith, sym, ◌∙◌}
use Rattle.std.proofs.lemmas.Grind.{common_steps}
use Rattle.seats.proofs.Numbers.{lookup_at, lookup_none, remove_at, remove_none}
use Rattle.seats.proofs.row.take_from.Goals as goal

pub returns-in_err-at-clause-taken : goal.returns-in_err-at-clause-taken
returns-in_err-at-clause-taken g c =
    let none = lookup_none c.args.number c.args.seated.now.items c.in_err-at.ensures.absent in
    grind (arith, common_steps, none)

pub returns-in_err-at-clause-others : goal.returns-in_err-at-clause-others
returns-in_err-at-clause-others g c =
    sym (remove_none c.args.number c.args.seated.now.items c.in_err-at.ensures.absent)

pub returns-clause-taken : goal.returns-clause-taken
returns-clause-taken g c =
    let found = lookup_at c.args.seated.now.items c.in_ok-at.at c.args.number
    c.requires.row.in_order c.in_ok-at.ensures.found in
    grind (arith, common_steps, found)

pub returns-clause-others : goal.returns-clause-others
returns-clause-others g c =
    c.in_ok-taken.ensures.items
    ∙ sym (remove_at c.args.seated.now.items c.in_ok-at.at c.args.number
    c.requires.row.in_order c.in_ok-at.ensures.found)
