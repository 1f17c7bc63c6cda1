use Rattle.std.proofs.Common.{List, string_bytes}
use Rattle.load_driver.specs.Stretches.{StandsFor}
use Rattle.virtual_time.specs.declared.action.Step.{Step}
use Rattle.virtual_time.specs.Course.{IsCourse, limiter_of, journal_with}
use Rattle.virtual_time.specs.Calendar.{IsHeld, actions_left}
use Rattle.virtual_time.proofs.course.run.Given as goal

-- there are steps that are, with all entries and the text, a course of the journal that was lent;
-- the calendar holds what is pending after them, and the session stands for all entries so far
abbrev pub invariant-loop-action : goal.invariant-loop-action
invariant-loop-action g l = record {
  steps : List Step;
  course : IsCourse (limiter_of g.L.Limit.rules l.fn.session.journal) l.arrivals l.timeout (record {
    steps = steps;
    entries = l.entries.items;
    out = string_bytes l.text;
  });
  held : IsHeld l.arrivals l.timeout steps l.entries.items l.calendar;
  stands : StandsFor g.L.Limit.rules (journal_with l.fn.session.journal l.entries.items) l.session;
}

abbrev pub decreases-loop-action : goal.decreases-loop-action
decreases-loop-action g l = actions_left l.calendar.actions
