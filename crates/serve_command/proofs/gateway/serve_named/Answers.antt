use Rattle.std.proofs.Common.{◌≡◌, ℕ, IfOk, IfSome, subst, vec_len}
use Rattle.std.specs.Prelude.{IfNone}
use Rattle.limit_kinds.specs.AnyKinds.{any_rules}
use Rattle.gate_ledgers.specs.Making.{Making}
use Rattle.gate_opening.specs.Opening.{making_of}
use Rattle.serving.specs.Served.{policy_of}
use Rattle.gate_desk.specs.State.{new_desk}
use Rattle.serve_command.specs.GatewayRun.{AreMiscounted, HasServedAll}
use Rattle.serve_command.proofs.gateway.serve_named.Goals as goal

-- the counters are those of the gate that was opened, whose names say how it was made, and so are
-- the desks beside its workers
pub returns-clause-served : goal.returns-clause-served
returns-clause-served g c =
    let gateway = c.args.gateway.now in
    let common = gateway.common.now in
    let policy = policy_of common.settings.now common.marks in
    let begin = new_desk common.settings.now.table common.listener.now in
    let all : vec_len c.take_own.new.passes ≡ gateway.workers = c.in_ok-own.ensures.all in
    subst (λ (n : ℕ). IfOk c.serve_through.result (λ told. IfSome told
    (HasServedAll any_rules (making_of gateway.workers common.settings.now) g.L.Closable.closed
    g.L.Listener.came g.L.Listener.found g.L.Listener.gave policy begin gateway.side.now n
    common.per_worker))) all
    (subst (λ (m : Making). IfOk c.serve_through.result (λ told. IfSome told
    (HasServedAll any_rules m g.L.Closable.closed g.L.Listener.came g.L.Listener.found
    g.L.Listener.gave policy begin gateway.side.now
    (vec_len c.take_own.new.passes) common.per_worker)))
    c.requires.making c.serve_through.ensures.served)

pub returns-clause-miscounted : goal.returns-clause-miscounted
returns-clause-miscounted g c =
    let gateway = c.args.gateway.now in
    let all : vec_len c.take_own.new.passes ≡ gateway.workers = c.in_ok-own.ensures.all in
    subst (λ (n : ℕ). IfOk c.serve_through.result (λ told. IfNone told
    (AreMiscounted any_rules (making_of gateway.workers gateway.common.now.settings.now) n
    (g.L.Listener.lost gateway.common.now.listener.now)))) all
    (subst (λ (m : Making). IfOk c.serve_through.result (λ told. IfNone told
    (AreMiscounted any_rules m (vec_len c.take_own.new.passes)
    (g.L.Listener.lost gateway.common.now.listener.now))))
    c.requires.making c.serve_through.ensures.miscounted)
