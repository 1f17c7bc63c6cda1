use Rattle.std.proofs.Common.{rules, ◌≡◌, ℕ, IfOk, IfSome, subst}
use Rattle.limit_kinds.specs.AnyKinds.{any_rules}
use Rattle.commands.specs.ServeOptions.{threads_of}
use Rattle.gate_opening.specs.Opening.{making_of}
use Rattle.serving.specs.Served.{policy_of}
use Rattle.gate_desk.specs.State.{new_desk}
use Rattle.serve_command.specs.GatewayRun.{HasServedAt}
use Rattle.serve_command.proofs.Served.{on_ok, served_at}
use Rattle.serve_command.proofs.context.serve_in.Goals as goal

pub returns-clause-served : goal.returns-clause-served
returns-clause-served g c =
    let context = c.args.context.now in
    let bound = context.bound.now in
    let settings = context.settings.now in
    let policy = policy_of settings c.args.service.now.marks in
    let begin = new_desk settings.table bound.front in
    let turns : c.from.result ≡ c.args.service.now.per_worker = search rules in
    let workers : c.threads.result ≡ threads_of c.args.service.now = c.threads.ensures in
    let Served = λ (count most : ℕ). IfOk c.serve_named.result (λ told. IfSome told
    (HasServedAt any_rules (making_of count settings) g.L.Closable.closed g.L.Listener.came
    g.L.Listener.found g.L.Listener.gave policy begin bound.admin bound.status count
    most)) in
    subst (λ (count : ℕ). Served count c.args.service.now.per_worker) workers
    (subst (λ (most : ℕ). Served c.threads.result most) turns
    (on_ok c.serve_named.result (λ told. served_at any_rules
    (making_of c.threads.result settings) g.L.Closable.closed
    g.L.Listener.came g.L.Listener.found g.L.Listener.gave policy begin bound.admin
    bound.status
    c.new-side.result c.threads.result c.from.result told c.new-side.ensures.admin
    c.new-side.ensures.status) c.serve_named.ensures.served))
