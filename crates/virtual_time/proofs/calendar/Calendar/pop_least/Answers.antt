use Rattle.std.proofs.Common.{sym, ap, ◌∙◌}
use Rattle.std.specs.List.{sum_by}
use Rattle.std.proofs.lemmas.List.Sums.{sum_by-cons}
use Rattle.virtual_time.specs.Calendar.{weight}
use Rattle.virtual_time.proofs.Calendars.{removed, least_queued}
use Rattle.virtual_time.proofs.calendar.Calendar.pop_least.Goals as goal

pub returns-clause-least : goal.returns-clause-least
returns-clause-least c = least_queued c.args.self.now.actions c.in_ok-action.action
    (sym c.in_ok-action.ensures.member) c.in_ok-action.ensures.least

pub returns-clause-loses : goal.returns-clause-loses
returns-clause-loses c = removed c.args.self.now.actions c.pop_first.new.self c.in_ok-action.action
    (sym c.in_ok-action.ensures.member) c.in_ok-action.ensures.updates
    (ap (sum_by weight) c.in_ok-action.ensures.removal
    ∙ sum_by-cons weight c.in_ok-action.action c.pop_first.new.self.keys)
