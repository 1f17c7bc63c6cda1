use Rattle.std.proofs.Common.{rules, ◌≡◌, refl}
use Rattle.counted_io.specs.Count.{raised}
use Rattle.operator_serving.specs.Attending.AreServed.{nobody, none_more, one_more}
use Rattle.operator_serving.specs.Desk.{AreLooks as looks}
use Rattle.operator_serving.specs.Memory.{refused_of}
use Rattle.operator_serving.specs.Stands.{stand}
use Rattle.operator_serving.proofs.ServedOperator.{served, stands_at}
use Rattle.operator_serving.proofs.operating.operate.Goals as goal

pub loop-init : goal.loop-init
loop-init g c = (
  tt,
  tt,
  record {
    served = nobody (stand c.args.served.now.desk (g.A.Accepts.given c.args.door.now)
        (g.A.Accepts.failed c.args.door.now) (refused_of c.args.served.now.memory));
    looks = λ anyone. looks.none c.args.served.now.desk;
    came = λ sent has_come. has_come;
    shut = λ is. is;
  },
)

-- one client more
pub loop-preserved-in-Ok : goal.loop-preserved-in-Ok
loop-preserved-in-Ok g c =
    let before = c.loop.invariant.2 in
    let handled = c.serve_client-client.ensures in
    let given : g.A.Accepts.given c.leave.new.self ≡ raised (g.A.Accepts.given c.loop.door) =
    search rules in
    let failed : g.A.Accepts.failed c.leave.new.self ≡ g.A.Accepts.failed c.loop.door =
    search rules in (
      tt,
      tt,
      record {
        served = stands_at _ _ _ _ _ _ _ _ given failed
            (one_more _ _ c.serve_client-client.new.handler.desk
            (refused_of c.serve_client-client.new.handler.memory) _ _ _
            c.serve_client-client.result.1 before.served (before.came _ c.in-Ok.ensures.came)
            (c.in-Ok.ensures.unwritten refl)
            (served _ _ _ _ _ _ _ _ _ _ _ _ handled));
        looks = λ anyone. looks.one_more c.args.served.now.desk c.loop.served.desk
            c.serve_client-client.new.handler.desk (before.looks anyone)
            (handled.handled.looks anyone);
        came = λ sent has_come. before.came sent
            (c.accept.ensures.place sent (c.leave.ensures.place sent has_come));
        shut = λ is. before.shut (c.accept.ensures.same_shut (c.leave.ensures.same_shut is));
      },
    )

-- nobody more
pub loop-preserved : goal.loop-preserved
loop-preserved g c =
    let before = c.loop.invariant.2 in
    let given : g.A.Accepts.given c.accept.new.self ≡ g.A.Accepts.given c.loop.door =
    search rules in
    let failed : g.A.Accepts.failed c.accept.new.self ≡ raised (g.A.Accepts.failed c.loop.door) =
    search rules in (
      tt,
      tt,
      record {
        served = stands_at _ _ _ _ _ _ _ _ given failed (none_more _ _ before.served);
        looks = before.looks;
        came = λ sent has_come. before.came sent (c.accept.ensures.place sent has_come);
        shut = λ is. before.shut (c.accept.ensures.same_shut is);
      },
    )

-- nobody more, and the door is closed
pub returns-then-is_closed-clause-served : goal.returns-then-is_closed-clause-served
returns-then-is_closed-clause-served g c =
    let given : g.A.Accepts.given c.accept.new.self ≡ g.A.Accepts.given c.loop.door =
    search rules in
    let failed : g.A.Accepts.failed c.accept.new.self ≡ raised (g.A.Accepts.failed c.loop.door) =
    search rules in
    stands_at _ _ _ _ _ _ _ _ given failed (none_more _ _ c.loop.invariant.2.served)
