use Rattle.std.proofs.Common.{refl, ap, arith}
use Rattle.std.specs.List.{sum_by}
use Rattle.std.proofs.lemmas.Bool.Decides.{nat_tests}
use Rattle.virtual_time.specs.Calendar.{weight}
use Rattle.virtual_time.proofs.Calendars.{inserted}
use Rattle.virtual_time.proofs.Measures.{joined_weight}
use Rattle.virtual_time.proofs.Orders.{derived}
use Rattle.virtual_time.proofs.calendar.Calendar.add.Goals as goal

pub returns-in_ok-insert-2 : goal.returns-in_ok-insert-2
returns-in_ok-insert-2 c = record {
  here = (inserted c.args.self.now.actions c.insert.new.self c.args.action
      c.in_ok-insert.ensures.updates).0;
  others = (inserted c.args.self.now.actions c.insert.new.self c.args.action
      c.in_ok-insert.ensures.updates).1;
  waits = λ h. c.in_ok-insert-2.ensures.updates.1;
  apart = λ n ne. c.in_ok-insert-2.ensures.updates.2 n (grind (arith, nat_tests));
  same = λ no. absurd (no c.in-GivingUp.is);
  read = refl;
  left = omega (
    arith,
    ap (sum_by weight) c.in_ok-insert.ensures.keys,
    joined_weight derived c.args.self.now.actions.keys c.args.action,
  );
}

pub returns-in_default : goal.returns-in_default
returns-in_default c = record {
  here = (inserted c.args.self.now.actions c.insert.new.self c.args.action
      c.in_ok-insert.ensures.updates).0;
  others = (inserted c.args.self.now.actions c.insert.new.self c.args.action
      c.in_ok-insert.ensures.updates).1;
  waits = λ h. absurd (c.in_default.not-GivingUp h);
  apart = λ n ne. refl;
  same = λ no n. refl;
  read = refl;
  left = omega (
    arith,
    ap (sum_by weight) c.in_ok-insert.ensures.keys,
    joined_weight derived c.args.self.now.actions.keys c.args.action,
  );
}
