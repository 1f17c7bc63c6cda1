use Rattle.virtual_time.proofs.Calendars.{stays_kept, had_before}
use Rattle.virtual_time.proofs.calendar.Calendar.next.Goals as goal

pub returns-clause-kept : goal.returns-clause-kept
returns-clause-kept c =
    let old = c.next_promoted.new.self in
    let new = c.pop_least.new.self in
    stays_kept c.args.entries.now old c.next_promoted.ensures.kept new
    (had_before old.actions new.actions c.in_ok-action.action c.in_ok-action.ensures.loses)
    c.pop_least.ensures.waiters c.pop_least.ensures.read
