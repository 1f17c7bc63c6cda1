use Rattle.std.proofs.Common.{refl}
use Rattle.limiter_core.specs.declared.event.Reply.TheVariants.{BacklogFull, TimedOut}
use Rattle.load_run.proofs.Calling.{asks_waiting, makes_admitted, makes_lost, makes_none, makes_one}
use Rattle.load_run.proofs.Calling.{makes_promoted, makes_stuck, makes_two}
use Rattle.load_run.proofs.Ordering.{lie_lost, lie_none, lie_one, lie_stuck, lie_three}
use Rattle.load_run.proofs.Ordering.{lie_two}
use Rattle.load_run.proofs.calls.call_until.Goals as goal

pub returns-in-Admitted-clause-made : goal.returns-in-Admitted-clause-made
returns-in-Admitted-clause-made g c =
    makes_admitted c.args.arrival c.in-Admitted.receipt c.finish.result c.in-Admitted.permit
    (asks_waiting c.args.arrival c.requires c.in-Admitted.ensures.0.event)
    c.in-Admitted.ensures.1.1 c.in-Admitted.ensures.1.2 c.finish.ensures.event

pub returns-in-Promoted-clause-made : goal.returns-in-Promoted-clause-made
returns-in-Promoted-clause-made g c =
    makes_promoted c.args.arrival c.in-Promoted.first c.in-Promoted.second
    c.finish-in-Promoted.result c.in-Promoted.permit
    (asks_waiting c.args.arrival c.requires c.in-Promoted.ensures.1.0.event)
    c.in-Promoted.ensures.1.1 c.in-Promoted.ensures.2.event c.in-Promoted.ensures.3.0
    c.in-Promoted.ensures.3.1 c.finish-in-Promoted.ensures.event

pub returns-in-TimedOut-clause-made : goal.returns-in-TimedOut-clause-made
returns-in-TimedOut-clause-made g c =
    makes_two c.args.arrival c.in-TimedOut.first c.in-TimedOut.second TimedOut
    (asks_waiting c.args.arrival c.requires c.in-TimedOut.ensures.1.0.event)
    c.in-TimedOut.ensures.1.1 c.in-TimedOut.ensures.2.event c.in-TimedOut.ensures.3 refl

pub returns-in-BacklogFull-clause-made : goal.returns-in-BacklogFull-clause-made
returns-in-BacklogFull-clause-made g c =
    makes_one c.args.arrival c.in-BacklogFull.receipt BacklogFull
    (asks_waiting c.args.arrival c.requires c.in-BacklogFull.ensures.0.event)
    c.in-BacklogFull.ensures.1 refl refl

pub returns-in-Ok-clause-made : goal.returns-in-Ok-clause-made
returns-in-Ok-clause-made g c =
    makes_lost (Unit {0}) _ _ c.args.arrival c.in-Lost.first c.in-Lost.second
    c.args.deadline c.acquire_wait.new.looks.latest c.requires c.in-Lost.ensures
    c.in-Ok.second c.in-Ok.is

pub returns-in-Err-clause-made : goal.returns-in-Err-clause-made
returns-in-Err-clause-made g c =
    makes_stuck (Unit {0}) _ _ c.args.arrival c.in-Lost.first c.in-Lost.second
    c.args.deadline c.acquire_wait.new.looks.latest c.requires c.in-Lost.ensures
    c.in-Err.spent c.held-held.ensures.spent c.in-Err.is

pub returns-in-Exhausted-clause-made : goal.returns-in-Exhausted-clause-made
returns-in-Exhausted-clause-made g c =
    makes_none c.args.arrival c.in-Exhausted.spent
    (asks_waiting c.args.arrival c.requires c.in-Exhausted.ensures.event)
    c.held-held-in-Exhausted.ensures.spent

pub returns-in-Admitted-clause-order : goal.returns-in-Admitted-clause-order
returns-in-Admitted-clause-order g c =
    lie_two _ _ _ _ c.in-Admitted.receipt c.finish.result c.in-Admitted.ensures.0
    c.finish.ensures.unseen c.finish.ensures.seen

pub returns-in-Promoted-clause-order : goal.returns-in-Promoted-clause-order
returns-in-Promoted-clause-order g c =
    lie_three _ _ _ _ _ _ c.in-Promoted.first c.in-Promoted.second c.finish-in-Promoted.result
    c.in-Promoted.ensures.1.0 c.in-Promoted.ensures.2 c.finish-in-Promoted.ensures.unseen
    c.finish-in-Promoted.ensures.seen

pub returns-in-TimedOut-clause-order : goal.returns-in-TimedOut-clause-order
returns-in-TimedOut-clause-order g c =
    lie_two _ _ _ _ c.in-TimedOut.first c.in-TimedOut.second c.in-TimedOut.ensures.1.0
    c.in-TimedOut.ensures.2.unseen c.in-TimedOut.ensures.2.seen

pub returns-in-BacklogFull-clause-order : goal.returns-in-BacklogFull-clause-order
returns-in-BacklogFull-clause-order g c =
    lie_one _ _ _ c.in-BacklogFull.receipt c.in-BacklogFull.ensures.0

pub returns-in-Ok-clause-order : goal.returns-in-Ok-clause-order
returns-in-Ok-clause-order g c =
    lie_lost (Unit {0}) _ _ c.args.arrival c.in-Lost.first c.in-Lost.second
    c.args.deadline c.acquire_wait.new.looks.latest c.in-Lost.ensures
    c.in-Ok.second c.in-Ok.is

pub returns-in-Err-clause-order : goal.returns-in-Err-clause-order
returns-in-Err-clause-order g c =
    lie_stuck (Unit {0}) _ _ c.args.arrival c.in-Lost.first c.in-Lost.second
    c.args.deadline c.acquire_wait.new.looks.latest c.in-Lost.ensures
    c.in-Err.spent c.in-Err.is

pub returns-in-Exhausted-clause-order : goal.returns-in-Exhausted-clause-order
returns-in-Exhausted-clause-order g c =
    lie_none _ _ _ c.in-Exhausted.spent c.in-Exhausted.ensures
