use Rattle.std.proofs.Common.{sym, ◌∙◌}
use Rattle.virtual_time.proofs.Calendars.{removed}
use Rattle.virtual_time.proofs.Measures.{left_weight}
use Rattle.virtual_time.proofs.calendar.Calendar.take_waiter.Goals as goal

pub returns-then-remove-clause-loses : goal.returns-then-remove-clause-loses
returns-then-remove-clause-loses c =
    removed c.args.self.now.actions c.remove.new.self c.in_ok-late.field-0.now (sym c.if-remove.true
    ∙ c.remove.ensures.test) c.remove.ensures.updates
    (left_weight c.args.self.now.actions c.remove.new.self c.in_ok-late.field-0.now
    (sym c.if-remove.true ∙ c.remove.ensures.test) (sym c.remove.ensures.keys))
