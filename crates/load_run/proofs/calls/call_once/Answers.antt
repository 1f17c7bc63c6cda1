use Rattle.std.proofs.Common.{refl}
use Rattle.limiter_core.specs.declared.event.Reply.TheVariants.{Bypassed, Full}
use Rattle.load_run.proofs.Calling.{asks_at_once, makes_admitted, makes_none, makes_one}
use Rattle.load_run.proofs.Ordering.{lie_none, lie_one, lie_two}
use Rattle.load_run.proofs.calls.call_once.Goals as goal

pub returns-in-Admitted-clause-made : goal.returns-in-Admitted-clause-made
returns-in-Admitted-clause-made g c =
    makes_admitted c.args.arrival c.in-Admitted.receipt c.finish.result c.in-Admitted.permit
    (asks_at_once c.args.arrival c.requires c.in-Admitted.ensures.0.event)
    c.in-Admitted.ensures.1.1 c.in-Admitted.ensures.1.2 c.finish.ensures.event

pub returns-in-Bypassed-clause-made : goal.returns-in-Bypassed-clause-made
returns-in-Bypassed-clause-made g c =
    makes_one c.args.arrival c.in-Bypassed.receipt Bypassed
    (asks_at_once c.args.arrival c.requires c.in-Bypassed.ensures.0.event)
    c.in-Bypassed.ensures.1 refl refl

pub returns-in-Full-clause-made : goal.returns-in-Full-clause-made
returns-in-Full-clause-made g c =
    makes_one c.args.arrival c.in-Full.receipt Full
    (asks_at_once c.args.arrival c.requires c.in-Full.ensures.0.event)
    c.in-Full.ensures.1 refl refl

pub returns-in-Exhausted-clause-made : goal.returns-in-Exhausted-clause-made
returns-in-Exhausted-clause-made g c =
    makes_none c.args.arrival c.in-Exhausted.spent
    (asks_at_once c.args.arrival c.requires c.in-Exhausted.ensures.event)
    c.held-held.ensures.spent

pub returns-in-Admitted-clause-order : goal.returns-in-Admitted-clause-order
returns-in-Admitted-clause-order g c =
    lie_two _ _ _ _ c.in-Admitted.receipt c.finish.result c.in-Admitted.ensures.0
    c.finish.ensures.unseen c.finish.ensures.seen

pub returns-in-Bypassed-clause-order : goal.returns-in-Bypassed-clause-order
returns-in-Bypassed-clause-order g c =
    lie_one _ _ _ c.in-Bypassed.receipt c.in-Bypassed.ensures.0

pub returns-in-Full-clause-order : goal.returns-in-Full-clause-order
returns-in-Full-clause-order g c =
    lie_one _ _ _ c.in-Full.receipt c.in-Full.ensures.0

pub returns-in-Exhausted-clause-order : goal.returns-in-Exhausted-clause-order
returns-in-Exhausted-clause-order g c =
    lie_none _ _ _ c.in-Exhausted.spent c.in-Exhausted.ensures
