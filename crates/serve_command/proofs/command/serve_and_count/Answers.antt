use Rattle.std.proofs.Common.{rules, ◌≡◌, Err, subst}
use Rattle.tasks.specs.Refused.{refused_of}
use Rattle.commands.specs.ServeOptions.{threads_of}
use Rattle.gateway_settings.specs.declared.settings.Settings.{Settings}
use Rattle.gateway_settings.specs.Exchanges.{settings_by}
use Rattle.serve_command.specs.Command.{IsOfServing, IsServedBy, Miscounts}
use Rattle.serve_command.specs.declared.fault.ServiceFault.TheVariants as Service
use Rattle.serve_command.proofs.WhyUnserved.{serving_is, why_unready, why_unserved, why_unwritten}
use Rattle.serve_command.proofs.command.serve_and_count.Goals as goal

pub returns-in_err-settings-clause-refused : goal.returns-in_err-settings-clause-refused
returns-in_err-settings-clause-refused g c =
    let fault = c.in_err-settings.field-0.0 in
    let is : c.from_residual.result ≡ Err fault = search rules in
    let path = c.args.service.now.path.now in
    why_unready (g.F.Opener.unopened path) (g.F.Opener.opened path) g.F.File.Read.remaining
    c.args.service.now.exchanges (λ s. IsOfServing g.B.Binder.bound g.B.Binder.unbound s.listen
    c.args.service.now.admin c.args.service.now.status (refused_of c.args.spawner.now)
    (refused_of c.args.spawner.now)
    (Miscounts g.B.Binder.bound g.B.Bound.Listener.lost
    (threads_of c.args.service.now) s))
    c.args.writer.now c.from_residual.result fault is c.in_err-settings.ensures.refused

pub returns-in_err-counters-clause-refused : goal.returns-in_err-counters-clause-refused
returns-in_err-counters-clause-refused g c =
    let read = c.in_ok-settings.ensures.read in
    let s = read.settings in
    let by = settings_by c.args.service.now.exchanges s in
    let fault = c.in_err-counters.field-0.0 in
    let is : c.from_residual-in_err-counters.result ≡ Err fault = search rules in
    let path = c.args.service.now.path.now in
    let Of = λ (s : Settings). IsOfServing g.B.Binder.bound g.B.Binder.unbound s.listen
    c.args.service.now.admin c.args.service.now.status (refused_of c.args.spawner.now)
    (refused_of c.serve_settings.new.spawner) (Miscounts g.B.Binder.bound g.B.Bound.Listener.lost
    (threads_of c.args.service.now) s) fault in
    let of = subst Of read.are c.in_err-counters.ensures.refused in
    why_unserved (g.F.Opener.unopened path) (g.F.Opener.opened path) g.F.File.Read.remaining
    c.args.service.now.exchanges (λ s. IsOfServing g.B.Binder.bound g.B.Binder.unbound s.listen
    c.args.service.now.admin c.args.service.now.status (refused_of c.args.spawner.now)
    (refused_of c.serve_settings.new.spawner)
    (Miscounts g.B.Binder.bound g.B.Bound.Listener.lost
    (threads_of c.args.service.now) s))
    c.args.writer.now c.from_residual-in_err-counters.result fault is
    s read.of_file of
    (serving_is g.B.Binder.bound g.B.Binder.unbound by.listen c.args.service.now.admin
    c.args.service.now.status (refused_of c.args.spawner.now)
    (refused_of c.serve_settings.new.spawner)
    (Miscounts g.B.Binder.bound g.B.Bound.Listener.lost
    (threads_of c.args.service.now) by)
    fault of)

pub returns-in_err-write_counters-clause-refused :
    goal.returns-in_err-write_counters-clause-refused
returns-in_err-write_counters-clause-refused g c =
    let read = c.in_ok-settings.ensures.read in
    let s = read.settings in
    let is : c.from_residual-in_err-write_counters.result ≡ Err Service.Write = search rules in
    let path = c.args.service.now.path.now in
    why_unwritten (g.F.Opener.unopened path) (g.F.Opener.opened path) g.F.File.Read.remaining
    c.args.service.now.exchanges (λ s. IsOfServing g.B.Binder.bound g.B.Binder.unbound s.listen
    c.args.service.now.admin c.args.service.now.status (refused_of c.args.spawner.now)
    (refused_of c.serve_settings.new.spawner)
    (Miscounts g.B.Binder.bound g.B.Bound.Listener.lost
    (threads_of c.args.service.now) s))
    c.args.writer.now c.write_counters.new.writer c.from_residual-in_err-write_counters.result is
    c.in_err-write_counters.ensures.failed
    s read.of_file

-- the file and its text, its settings, and the counters that were written
pub returns-clause-served : goal.returns-clause-served
returns-clause-served g c =
    let read = c.in_ok-settings.ensures.read in
    let s = read.settings in
    let by = settings_by c.args.service.now.exchanges s in
    record {
      settings = s;
      file = read.of_file.0;
      bytes = read.of_file.1;
      opened = read.of_file.2;
      held = read.of_file.3;
      says = read.of_file.4;
      enough = read.enough;
      counters = c.in_ok-counters.counters;
      served = subst (λ (s : Settings). IsServedBy g.B.Binder.bound g.B.Bound.Listener.came
          g.B.Bound.Listener.found g.B.Bound.Listener.gave g.B.Bound.Closable.closed
          c.args.service.now s
          c.in_ok-counters.counters) read.are c.in_ok-counters.ensures.served;
      written = c.in_ok-write_counters.ensures.all;
      unfailing = c.in_ok-write_counters.ensures.unfailing;
      flushed = c.in_ok-write_counters.ensures.flushed;
    }
