use Rattle.std.proofs.Common.{rules, ◌≡◌, Err}
use Rattle.std.specs.Net.Text.{socket_v4_text}
use Rattle.serve_command.proofs.Beside.{bound_too}
use Rattle.serve_command.proofs.WhyUnserved.{lacks_admin, lacks_front, lacks_status}
use Rattle.serve_command.proofs.binding.bind_all.Goals as goal

pub returns-in_err-front-clause-unbound : goal.returns-in_err-front-clause-unbound
returns-in_err-front-clause-unbound g c =
    let fault = c.in_err-front.field-0.0 in
    let is : c.from_residual.result ≡ Err fault = search rules in
    lacks_front g.B.Binder.bound g.B.Binder.unbound (socket_v4_text c.args.listen)
    c.args.service.now.admin c.args.service.now.status c.from_residual.result fault is
    c.in_err-front.ensures.unbound

pub returns-in_err-admin-clause-unbound : goal.returns-in_err-admin-clause-unbound
returns-in_err-admin-clause-unbound g c =
    let fault = c.in_err-admin.field-0.0 in
    let is : c.from_residual-in_err-admin.result ≡ Err fault = search rules in
    lacks_admin g.B.Binder.bound g.B.Binder.unbound (socket_v4_text c.args.listen)
    c.args.service.now.admin c.args.service.now.status c.from_residual-in_err-admin.result fault is
    (c.in_ok-front.front, c.in_ok-front.ensures.bound) c.in_err-admin.ensures.unbound

pub returns-in_err-status-clause-unbound : goal.returns-in_err-status-clause-unbound
returns-in_err-status-clause-unbound g c =
    let fault = c.in_err-status.field-0.0 in
    let is : c.from_residual-in_err-status.result ≡ Err fault = search rules in
    lacks_status g.B.Binder.bound g.B.Binder.unbound (socket_v4_text c.args.listen)
    c.args.service.now.admin c.args.service.now.status c.from_residual-in_err-status.result fault
    is (c.in_ok-front.front, c.in_ok-front.ensures.bound)
    (bound_too g.B.Binder.bound c.args.service.now.admin c.in_ok-admin.admin
    c.in_ok-admin.ensures.bound)
    c.in_err-status.ensures.unbound

pub returns-clause-bound : goal.returns-clause-bound
returns-clause-bound g c = record {
  front = c.in_ok-front.ensures.bound;
  operator = c.in_ok-admin.ensures.bound;
  lookers = c.in_ok-status.ensures.bound;
}
