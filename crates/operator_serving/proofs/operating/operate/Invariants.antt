use Rattle.std.proofs.Common.{◌≡◌, ℕ, List, Option}
use Rattle.operator_calls.specs.declared.audience.Audience.TheVariants.{Anyone}
use Rattle.operator_serving.specs.Attending.{AreServed}
use Rattle.operator_serving.specs.Desk.{AreLooks}
use Rattle.operator_serving.specs.Memory.{refused_of}
use Rattle.operator_serving.specs.Stands.{stand}
use Rattle.operator_serving.proofs.operating.operate.Given as goal

-- whoever came so far was attended to, one after the other, at the door as it was at first
abbrev pub invariant-loop : goal.invariant-loop
invariant-loop g l =
    (goal.iterator-loop g).can_next l.iterator' × (goal.iterator-loop g).is_finite l.iterator'
    × record {
      served : AreServed g.D.Desk.rows g.D.Desk.shows g.D.Desk.does (g.A.Accepts.came l.fn.door)
          l.fn.common.audience l.fn.common.page.now
          (stand l.fn.served.desk (g.A.Accepts.given l.fn.door) (g.A.Accepts.failed l.fn.door)
          (refused_of l.fn.served.memory))
          (stand l.served.desk (g.A.Accepts.given l.door) (g.A.Accepts.failed l.door)
          (refused_of l.served.memory));
      looks : l.fn.common.audience ≡ Anyone → AreLooks g.D.Desk.does l.fn.served.desk l.served.desk;
      came : (sent : Option (List ℕ)) → g.A.Accepts.came l.door sent
          → g.A.Accepts.came l.fn.door sent;
      shut : g.A.Accepts.shut l.door → g.A.Accepts.shut l.fn.door;
    }
