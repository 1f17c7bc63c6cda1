use Rattle.std.proofs.Common.{rules, ◌≡◌, ◌∙◌, subst, None, Some, length, false}
use Rattle.std.specs.Prelude.{vec_len}
use Rattle.std.specs.List.{AllZip}
use Rattle.serving.specs.Served.{policy_of}
use Rattle.serving.specs.Workers.{HasRun, ended_in, made_in}
use Rattle.ports.specs.Asked.{known_by}
use Rattle.gate_desk.specs.Desk.{IsDone}
use Rattle.gate_desk.specs.State.{new_desk}
use Rattle.serve_command.proofs.Beside.{beside}
use Rattle.serve_command.proofs.GatewayRun.{all_ran_to, counted_runs, roll_in_end, runs_miscounted}
use Rattle.serve_command.proofs.GatewayRun.{served_all}
use Rattle.serve_command.proofs.Rolls.{gave_turns}
use Rattle.serve_command.proofs.gateway.serve_through.Goals as goal

-- the passes that were handed back are those of the workers, who began with passes of no call, and
-- of whoever was served beside them; and all whom the listener gave came in the workers' turns
pub returns-clause-served : goal.returns-clause-served
returns-clause-served g c =
    let gateway = c.args.gateway.now in
    let common = gateway.common.now in
    let came = g.L.Listener.came in
    let found = g.L.Listener.found in
    let roll = g.L.Listener.roll in
    let lefts = c.in_ok-lefts.lefts.items in
    let making = g.M.Naming.making in
    let all = all_ran_to _ _ _ _ _ making came found roll common c.args.passes.items
    (ended_in lefts) c.requires.unused
    (subst (λ ports. AllZip
    (HasRun came found roll (λ port. None) (λ port. Some (known_by making port)) common) ports
    (ended_in lefts))
    c.in_ok-ports.ensures c.in_ok-lefts.ensures.ran) in
    let long : length c.args.passes.items ≡ vec_len c.args.passes = search rules in
    let begin = new_desk common.settings.now.table common.listener.now in
    let gave = gave_turns (roll_in_end _ _ _ _ _ making came found roll common) (ended_in lefts)
    all.turns (g.L.Listener.gave common.listener.now) (roll common.listener.now
    c.in_ok-back.back.token) c.if_gave_all.result all.rolled c.in_ok-back.ensures.token
    c.if_gave_all.ensures.gave in
    served_all _ _ _ _ _ _ _ begin gateway.side.now _ _ (made_in lefts) c.if_gave_all.result
    (beside _ _ _ _ _ _ _ (IsDone g.G.Limit.rules g.M.Naming.making g.L.Closable.closed)
    came found begin gateway.side.now c.in_ok-operators.operators.items (made_in lefts)
    c.in_ok-operators.ensures c.in_ok-lefts.ensures.side_tasks)
    (counted_runs g.G.Limit.rules g.M.Naming.making lefts (vec_len c.args.passes)
    (all.many ∙ long)
    c.in_ok-back.back.passes.items c.in_ok-back.ensures.passes c.counters_of_all.result
    c.counters_of_all.ensures.all c.counters_of_all.ensures.missing c.in_ok-back.back.calls
    c.in_ok-back.ensures.calls (policy_of common.settings.now common.marks)
    (came common.listener.now) (found common.listener.now false)
    (g.L.Listener.gave common.listener.now) common.per_worker c.balanced-told.result
    c.if_gave_all.result
    c.exchanges_are_one_threads.ensures (c.reports_balance.ensures _) all.turns all.took
    c.balanced-told.ensures.some c.if_gave_all.ensures.told gave)

pub returns-clause-miscounted : goal.returns-clause-miscounted
returns-clause-miscounted g c =
    let common = c.args.gateway.now.common.now in
    let came = g.L.Listener.came in
    let found = g.L.Listener.found in
    let roll = g.L.Listener.roll in
    let lefts = c.in_ok-lefts.lefts.items in
    let making = g.M.Naming.making in
    let all = all_ran_to _ _ _ _ _ making came found roll common c.args.passes.items
    (ended_in lefts) c.requires.unused
    (subst (λ ports. AllZip
    (HasRun came found roll (λ port. None) (λ port. Some (known_by making port)) common) ports
    (ended_in lefts))
    c.in_ok-ports.ensures c.in_ok-lefts.ensures.ran) in
    let long : length c.args.passes.items ≡ vec_len c.args.passes = search rules in
    runs_miscounted g.G.Limit.rules g.M.Naming.making lefts (vec_len c.args.passes)
    (all.many ∙ long)
    c.in_ok-back.back.passes.items c.in_ok-back.ensures.passes c.counters_of_all.result
    c.counters_of_all.ensures.all c.counters_of_all.ensures.missing c.in_ok-back.back.calls
    c.in_ok-back.ensures.calls (g.L.Listener.lost common.listener.now) c.balanced-told.result
    c.if_gave_all.result c.balanced-told.ensures.none c.if_gave_all.ensures.none
