use Rattle.std.proofs.Common.{sym, subst, arith}
use Rattle.std.specs.BTreeSet.{BTreeSet}
use Rattle.virtual_time.specs.declared.action.Action.{Action}
use Rattle.virtual_time.specs.Next.{Follows}
use Rattle.virtual_time.specs.Calendar.{Has}
use Rattle.virtual_time.proofs.Calendars.{promoted_within}
use Rattle.virtual_time.proofs.calendar.Calendar.next_promoted.Goals as goal

pub returns-in-Some-clause-first : goal.returns-in-Some-clause-first
returns-in-Some-clause-first c = record {
  place = c.loop-self.self.read;
  follows = subst (λ (queue : BTreeSet Action). Follows (Has queue) c.args.entries.now
      c.loop-self.self.read c.in-Some.action)
      c.loop-self.invariant.queued c.in-Some.ensures.follows;
  first = λ k e below f. c.loop-self.invariant.kept.read k e below
      (subst (λ (queue : BTreeSet Action). Follows (Has queue) c.args.entries.now k e)
      (sym c.loop-self.invariant.queued) f);
}

pub returns-clause-none : goal.returns-clause-none
returns-clause-none c = λ k d f.
    c.loop-self.invariant.kept.read k d
    (omega (arith, c.loop-self-test.false, promoted_within c.args.entries.now k _ f.promoted))
    (subst (λ (queue : BTreeSet Action). Follows (Has queue) c.args.entries.now k d)
    (sym c.loop-self.invariant.queued) f)
