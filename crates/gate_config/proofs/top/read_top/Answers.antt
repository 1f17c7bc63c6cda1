use Rattle.std.proofs.Common.{rules, ◌≡◌, Err, ◌++◌}
use Rattle.toml.specs.View.{table_view}
use Rattle.gate_config.specs.Top.{front_values, kept_values}
use Rattle.gate_config.proofs.Tops.{front_fails, gate_ends, kept_fail}
use Rattle.gate_config.proofs.top.read_top.Goals as goal

pub returns-in_err-front-clause-value : goal.returns-in_err-front-clause-value
returns-in_err-front-clause-value c =
    let e = c.in_err-front.field-0.0 in
    let is : c.from_residual.result ≡ Err e = search rules in
    rw is (front_fails (table_view c.args.table.now) c.args.version e
    c.in_err-front.ensures.value)

pub returns-in_err-kept-clause-value : goal.returns-in_err-kept-clause-value
returns-in_err-kept-clause-value c =
    let e = c.in_err-kept.field-0.0 in
    let is : c.from_residual-in_err-kept.result ≡ Err e = search rules in
    rw is (kept_fail (table_view c.args.table.now) c.args.version c.in_ok-front.front e
    c.in_ok-front.ensures.value (c.in_err-kept.ensures.value (front_values c.in_ok-front.front)))

pub returns-in_err-gate-clause-value : goal.returns-in_err-gate-clause-value
returns-in_err-gate-clause-value c =
    let e = c.in_err-gate.field-0.0 in
    let is : c.from_residual-in_err-gate.result ≡ Err e = search rules in
    rw is (gate_ends (table_view c.args.table.now) c.args.version c.in_ok-front.front
    c.in_ok-kept.kept (Err e)
    c.in_ok-front.ensures.value (c.in_ok-kept.ensures.value (front_values c.in_ok-front.front))
    (c.in_err-gate.ensures.value
    (front_values c.in_ok-front.front ++ kept_values c.in_ok-kept.kept)))

pub returns-clause-value : goal.returns-clause-value
returns-clause-value c =
    gate_ends (table_view c.args.table.now) c.args.version c.in_ok-front.front c.in_ok-kept.kept _
    c.in_ok-front.ensures.value (c.in_ok-kept.ensures.value (front_values c.in_ok-front.front))
    (c.in_ok-gate.ensures.value
    (front_values c.in_ok-front.front ++ kept_values c.in_ok-kept.kept))
