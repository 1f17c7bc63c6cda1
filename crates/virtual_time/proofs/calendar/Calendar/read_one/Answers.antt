use Rattle.std.proofs.Common.{sym, ◌∙◌}
use Rattle.virtual_time.proofs.Calendars.{read_more, none_left, had_before}
use Rattle.virtual_time.proofs.calendar.Calendar.read_one.Goals as goal

pub returns-clause-kept : goal.returns-clause-kept
returns-clause-kept c =
    let old = c.args.self.now in
    let new = c.take_waiter.new.self in
    read_more c.args.entries.now old c.requires.kept new
    (had_before old.actions new.actions c.in_ok-late.late c.in_ok-late.ensures.loses)
    c.take_waiter.ensures.waiters c.take_waiter.ensures.read c.requires.more
    (none_left c.args.entries.now old c.requires.kept old.read c.in_ok-waiter.waiter
    c.in_ok-waiter.start (sym c.promoted_at.ensures ∙ c.in_ok-waiter.was) c.in_ok-late.late
    new.actions c.in_ok-late.ensures.found c.in_ok-late.ensures.loses)
