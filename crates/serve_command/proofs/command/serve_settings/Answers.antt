use Rattle.std.proofs.Common.{rules, ◌≡◌, ℕ, List, Option, Some, subst}
use Rattle.std.proofs.Common.{Result, Ok, Err, IfOk, IfSome, None}
use Rattle.std.specs.Prelude.{IfNone}
use Rattle.std.specs.Net.Text.{socket_v4_text}
use Rattle.tasks.specs.Refused.{refused_of}
use Rattle.limit_kinds.specs.AnyKinds.{any_rules}
use Rattle.commands.specs.ServeOptions.{threads_of}
use Rattle.gate_opening.specs.Opening.{making_of}
use Rattle.gate_desk.specs.Desk.{IsDone}
use Rattle.gate_desk.specs.State.{new_desk}
use Rattle.limiter_core.specs.declared.counters.Counters.{Counters}
use Rattle.serving.specs.Served.{policy_of}
use Rattle.serving.specs.declared.fault.ServeFault.{ServeFault}
use Rattle.serve_command.specs.Command.{Miscounts}
use Rattle.serve_command.specs.GatewayRun.{AreMiscounted, HasServedAt}
use Rattle.serve_command.specs.ServiceFault.{of_workers}
use Rattle.serve_command.proofs.Beside.{admin_served, status_served}
use Rattle.serve_command.proofs.GatewayRun.{lost_too}
use Rattle.serve_command.proofs.WhyUnserved.{bound_at, lacks_address, lacks_memory, lacks_workers}
use Rattle.serve_command.proofs.command.serve_settings.Goals as goal

pub returns-in_err-bound-clause-refused : goal.returns-in_err-bound-clause-refused
returns-in_err-bound-clause-refused g c =
    let before = refused_of c.args.spawner.now in
    let fault = c.in_err-bound.field-0.0 in
    let is : c.from_residual.result ≡ Err fault = search rules in
    let same : socket_v4_text c.socket.result ≡ c.args.settings.now.listen = search rules in
    lacks_address g.B.Binder.bound g.B.Binder.unbound c.args.settings.now.listen
    c.args.service.now.admin c.args.service.now.status before before
    (Miscounts g.B.Binder.bound g.B.Bound.Listener.lost
    (threads_of c.args.service.now) c.args.settings.now)
    c.from_residual.result fault is
    (socket_v4_text c.socket.result) same c.in_err-bound.ensures.unbound

pub returns-in_err-check_stacks-clause-refused : goal.returns-in_err-check_stacks-clause-refused
returns-in_err-check_stacks-clause-refused g c =
    let before = refused_of c.args.spawner.now in
    let fault = c.in_err-check_stacks.field-0.0 in
    let is : c.from_residual-in_err-check_stacks.result ≡ Err fault = search rules in
    let same : socket_v4_text c.socket.result ≡ c.args.settings.now.listen = search rules in
    lacks_memory g.B.Binder.bound g.B.Binder.unbound c.args.settings.now.listen
    c.args.service.now.admin c.args.service.now.status before before
    (Miscounts g.B.Binder.bound g.B.Bound.Listener.lost
    (threads_of c.args.service.now) c.args.settings.now)
    c.from_residual-in_err-check_stacks.result fault is
    (bound_at g.B.Binder.bound (socket_v4_text c.socket.result) c.args.settings.now.listen
    c.in_ok-bound.bound.front same c.in_ok-bound.ensures.bound.front) c.in_err-check_stacks.ensures

pub returns-in_err-watch-clause-refused : goal.returns-in_err-watch-clause-refused
returns-in_err-watch-clause-refused g c =
    let before = refused_of c.args.spawner.now in
    let fault = c.in_err-watch.field-0.0 in
    let is : c.from_residual-in_err-watch.result ≡ Err fault = search rules in
    let same : socket_v4_text c.socket.result ≡ c.args.settings.now.listen = search rules in
    lacks_memory g.B.Binder.bound g.B.Binder.unbound c.args.settings.now.listen
    c.args.service.now.admin c.args.service.now.status before before
    (Miscounts g.B.Binder.bound g.B.Bound.Listener.lost
    (threads_of c.args.service.now) c.args.settings.now)
    c.from_residual-in_err-watch.result fault is
    (bound_at g.B.Binder.bound (socket_v4_text c.socket.result) c.args.settings.now.listen
    c.in_ok-bound.bound.front same c.in_ok-bound.ensures.bound.front) c.in_err-watch.ensures.lacking

pub returns-in_err-counters-clause-refused :
    goal.returns-in_err-counters-clause-refused
returns-in_err-counters-clause-refused g c =
    let fault = c.in_err-counters.field-0.0 in
    let was : c.serve_in.result ≡ Err fault = search rules in
    let is : c.from_residual-in_err-counters.result ≡ Err (of_workers fault) =
    search rules in
    let same : socket_v4_text c.socket.result ≡ c.args.settings.now.listen = search rules in
    lacks_workers g.B.Binder.bound g.B.Binder.unbound c.args.settings.now.listen
    c.args.service.now.admin c.args.service.now.status (refused_of c.args.spawner.now)
    (refused_of c.serve_in.new.spawner)
    (Miscounts g.B.Binder.bound g.B.Bound.Listener.lost
    (threads_of c.args.service.now) c.args.settings.now)
    c.from_residual-in_err-counters.result
    c.serve_in.result fault was is
    (bound_at g.B.Binder.bound (socket_v4_text c.socket.result) c.args.settings.now.listen
    c.in_ok-bound.bound.front same c.in_ok-bound.ensures.bound.front) c.serve_in.ensures.thread

pub returns-in-Some-clause-served : goal.returns-in-Some-clause-served
returns-in-Some-clause-served g c =
    let same : socket_v4_text c.socket.result ≡ c.args.settings.now.listen = search rules in
    let does = IsDone any_rules (making_of (threads_of c.args.service.now) c.args.settings.now)
    g.B.Bound.Closable.closed in
    let begin = new_desk c.args.settings.now.table c.in_ok-bound.bound.front in
    let made = making_of (threads_of c.args.service.now) c.args.settings.now in
    let was : c.serve_in.result ≡ Ok (Some c.in-Some.counters) = search rules in
    let policy = policy_of c.args.settings.now c.args.service.now.marks in
    let served : HasServedAt any_rules made g.B.Bound.Closable.closed g.B.Bound.Listener.came
    g.B.Bound.Listener.found g.B.Bound.Listener.gave policy begin c.in_ok-bound.bound.admin
    c.in_ok-bound.bound.status
    (threads_of c.args.service.now) c.args.service.now.per_worker c.in-Some.counters =
    subst (λ (it : Result (Option Counters) ServeFault). IfOk it (λ told. IfSome told
    (HasServedAt any_rules made g.B.Bound.Closable.closed g.B.Bound.Listener.came
    g.B.Bound.Listener.found g.B.Bound.Listener.gave policy begin c.in_ok-bound.bound.admin
    c.in_ok-bound.bound.status
    (threads_of c.args.service.now) c.args.service.now.per_worker))) was
    c.serve_in.ensures.served in
    record {
      listener = c.in_ok-bound.bound.front;
      bound = subst (λ (address : List ℕ). g.B.Binder.bound address c.in_ok-bound.bound.front) same
          c.in_ok-bound.ensures.bound.front;
      by_lookers = served.by_lookers;
      by_admins = served.by_admins;
      ran = served.counted;
      operator = admin_served does g.B.Bound.Listener.came g.B.Bound.Listener.found begin
          g.B.Binder.bound c.args.service.now.admin c.in_ok-bound.bound.admin served.by_admins
          c.in_ok-bound.ensures.bound.operator served.admins;
      lookers = status_served does g.B.Bound.Listener.came g.B.Bound.Listener.found begin
          g.B.Binder.bound c.args.service.now.status c.in_ok-bound.bound.status served.by_lookers
          c.in_ok-bound.ensures.bound.lookers served.lookers;
    }

pub returns-clause-refused : goal.returns-clause-refused
returns-clause-refused g c =
    let same : socket_v4_text c.socket.result ≡ c.args.settings.now.listen = search rules in
    let bound : g.B.Binder.bound c.args.settings.now.listen c.in_ok-bound.bound.front =
    subst (λ (address : List ℕ). g.B.Binder.bound address c.in_ok-bound.bound.front) same
    c.in_ok-bound.ensures.bound.front in
    let made = making_of (threads_of c.args.service.now) c.args.settings.now in
    let lost = g.B.Bound.Listener.lost c.in_ok-bound.bound.front in
    let was : c.serve_in.result ≡ Ok None = search rules in
    let off : AreMiscounted any_rules made (threads_of c.args.service.now) lost =
    subst (λ (it : Result (Option Counters) ServeFault). IfOk it (λ told. IfNone told
    (AreMiscounted any_rules made (threads_of c.args.service.now) lost))) was
    c.serve_in.ensures.miscounted in (
      (c.in_ok-bound.bound.front, bound),
      lost_too any_rules made (threads_of c.args.service.now) lost _
          (λ it. (c.in_ok-bound.bound.front, bound, it)) off,
    )
