use Rattle.std.proofs.Common.{rules, ◌≡◌, ◌∙◌, arith, ap, refl, subst, sym}
use Rattle.counted_io.specs.Count.{raised}
use Rattle.proxy.specs.Made.{is_kept}
use Rattle.serving.specs.Served.{back_of}
use Rattle.serving.specs.Turns.{Missing}
use Rattle.serving.proofs.TakenTurns.{all_failed, all_given, begins, client_of, forwarded_at_most}
use Rattle.serving.proofs.RolledTurns.{missing_rolled}
use Rattle.serving.proofs.TakenTurns.{goes_on, goes_on_visited, missing_shown, run_of}
use Rattle.serving.proofs.TakenTurns.{same_back}
use Rattle.serving.proofs.working.work.Goals.{in-Ok, in-Err+else-is_closed}
use Rattle.serving.proofs.working.work.Goals as goal

pub loop-turn-init : goal.loop-turn-init
loop-turn-init g c = record {
  took = begins _ _ _;
  turns = refl;
  same = λ sent came. came;
  shut = λ is begun. search rules;
  same_shut = λ shut. shut;
  source = refl;
}

pub loop-turn-preserved : goal.loop-turn-preserved
loop-turn-preserved g c = elim c.match-accept.branch [
  | in-Ok w ↦ record {
    took = goes_on_visited _ _ _ _ _ _ _ _
        (client_of g.A.From.Inlet.remaining g.A.To.Outlet.contents w.in-Ok.client.ends
        w.in-Ok.client.is_kept)
        (client_of g.A.From.Inlet.remaining g.A.To.Outlet.contents
        w.serve_by_exchange-client.result.0.ends (is_kept w.serve_by_exchange-client.result.1))
        w.serve_by_exchange-client.result.1 c.loop-turn.invariant.took (search rules) (search rules)
        (record {
          visits = g.A.Accepts.visits c.accept.new.self;
          back = back_of g.P.GatePort.shown g.P.GatePort.known g.B.Backend.forwarded
              g.B.Backend.shown
              w.serve_by_exchange-client.new.exchanger.port
              w.serve_by_exchange-client.new.exchanger.backend;
          given = search rules;
          failed = search rules;
          turn = record {
            unwritten = w.in-Ok.ensures.unwritten;
            served = w.serve_by_exchange-client.ensures;
            comes = c.loop-turn.invariant.same _ w.in-Ok.ensures.came;
          };
          same = same_back g.P.GatePort.shown g.P.GatePort.known g.B.Backend.forwarded
              g.B.Backend.shown _ _ _ _ w.leave-in-Ok.new.self (search rules) (search rules)
              w.leave-in-Ok.ensures.count w.leave-in-Ok.ensures.log;
          arrives = w.in-Ok.ensures.arrived;
          leaves = search rules;
          roll = g.A.Accepts.roll c.accept.new.self;
          comes = w.in-Ok.ensures.rolled;
          goes = search rules;
        });
    turns = search rules;
    same = λ sent came. c.loop-turn.invariant.same sent
        (c.accept.ensures.place sent (w.leave.ensures.place sent
        (subst (λ door. g.A.Accepts.came door sent) w.door-is came)));
    shut = λ is begun. c.loop-turn.invariant.shut (sym w.in-Ok.ensures.open
        ∙ sym w.leave.ensures.same_closed ∙ sym (ap g.A.Accepts.closed w.door-is) ∙ is) begun;
    same_shut = λ shut. c.loop-turn.invariant.same_shut (c.accept.ensures.same_shut
        (w.leave.ensures.same_shut (subst g.A.Accepts.shut w.door-is shut)));
    source = ap g.A.Accepts.source w.door-is ∙ w.leave.ensures.source ∙ c.accept.ensures.source
        ∙ c.loop-turn.invariant.source;
  }
  | in-Err+else-is_closed w ↦ record {
    took = goes_on _ _ _ _ _ _ _ _ Missing c.loop-turn.invariant.took
        (search rules) (search rules) (search rules) (search rules) (search rules)
        (missing_shown _ _ (search rules)) (missing_rolled _ _ (search rules));
    turns = search rules;
    same = λ sent came. c.loop-turn.invariant.same sent (c.accept.ensures.place sent
        (subst (λ door. g.A.Accepts.came door sent) w.door-is came));
    shut = λ is begun. c.loop-turn.invariant.same_shut (w.in-Err.ensures.shut
        (sym (ap g.A.Accepts.closed w.door-is) ∙ is));
    same_shut = λ shut. c.loop-turn.invariant.same_shut (c.accept.ensures.same_shut
        (subst g.A.Accepts.shut w.door-is shut));
    source = ap g.A.Accepts.source w.door-is ∙ c.accept.ensures.source
        ∙ c.loop-turn.invariant.source;
  }
]

pub returns-then-is_closed-clause-run : goal.returns-then-is_closed-clause-run
returns-then-is_closed-clause-run g c =
    run_of _ _ _ _ _ _ _ _ (goes_on _ _ _ _ _ _ _ _ Missing c.loop-turn.invariant.took
    (search rules) (search rules) (search rules) (search rules) (search rules)
    (missing_shown _ _ (search rules)) (missing_rolled _ _ (search rules))) (search rules)
    (λ open_yet. absurd (search rules))
    (λ is begun. c.loop-turn.invariant.same_shut (c.in-Err.ensures.shut is))

pub returns-then-is_closed-clause-once : goal.returns-then-is_closed-clause-once
returns-then-is_closed-clause-once g c = forwarded_at_most _ _ _ _ _ _ c.loop-turn.invariant.took

pub returns-then-is_closed-clause-given : goal.returns-then-is_closed-clause-given
returns-then-is_closed-clause-given g c = λ room.
    let same : g.A.Accepts.given c.accept.new.self ≡ g.A.Accepts.given c.loop-turn.door =
    search rules in
    same ∙ all_given _ _ _ c.args.common.now.per_worker _ _ _ c.loop-turn.invariant.took
    (search rules) room

pub returns-then-is_closed-clause-failed : goal.returns-then-is_closed-clause-failed
returns-then-is_closed-clause-failed g c = λ room.
    let before = all_failed _ _ _ c.args.common.now.per_worker _ _ _ c.loop-turn.invariant.took
    (search rules) room in
    let after : g.A.Accepts.failed c.accept.new.self
    ≡ raised (g.A.Accepts.failed c.loop-turn.door) = search rules in
    let turns = c.loop-turn.invariant.turns in
    omega arith

pub returns-clause-run : goal.returns-clause-run
returns-clause-run g c = run_of _ _ _ _ _ _ _ _ c.loop-turn.invariant.took (search rules)
    (λ open_yet. search rules) c.loop-turn.invariant.shut

pub returns-clause-once : goal.returns-clause-once
returns-clause-once g c = forwarded_at_most _ _ _ _ _ _ c.loop-turn.invariant.took

pub returns-clause-given : goal.returns-clause-given
returns-clause-given g c = λ room.
    all_given _ _ _ c.args.common.now.per_worker _ _ _ c.loop-turn.invariant.took (search rules)
    room

pub returns-clause-failed : goal.returns-clause-failed
returns-clause-failed g c = λ room.
    all_failed _ _ _ c.args.common.now.per_worker _ _ _ c.loop-turn.invariant.took (search rules)
    room
