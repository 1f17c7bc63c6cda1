use Rattle.std.proofs.Common.{rules}
use Rattle.seats.proofs.row.Row.take_late.Goals as goal

pub returns-clause-first : goal.returns-clause-first
returns-clause-first g c = (
  c.in_ok-first.field-0-0,
  c.in_ok-first.first.since,
  rw (← c.self.view_is) c.in_ok-first.ensures.items,
)

pub returns-clause-late : goal.returns-clause-late
returns-clause-late g c = search rules
