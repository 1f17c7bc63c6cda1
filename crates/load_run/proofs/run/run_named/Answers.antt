use Rattle.std.proofs.Common.{rules, ◌≡◌, length, Err}
use Rattle.load_run.specs.Workers.{AreWork}
use Rattle.load_run.specs.declared.fault.LoadFault.TheVariants.{Audit}
use Rattle.load_run.proofs.WrittenRun.{audit_stops, is_unaccepted}
use Rattle.load_run.proofs.run.run_named.Goals as goal

pub returns-in_err-close-clause-stops : goal.returns-in_err-close-clause-stops
returns-in_err-close-clause-stops g c =
    let kept = c.in_ok-worked.worked.kept.items in
    let many : length kept ≡ c.args.size.workers = search rules in
    let work : AreWork c.args.size.workers c.args.arrivals.items kept
    c.in_ok-worked.worked.spent.items = search rules in
    let is : c.from_residual-in_err-close.result ≡ Err (Audit c.in_err-close.field-0.0) =
    search rules in
    audit_stops c.args.size.workers c.args.size.limit c.args.settings c.args.arrivals.items
    c.from_residual-in_err-close.result c.in_err-close.field-0.0 is
    (is_unaccepted c.args.size.workers c.args.size.limit c.args.settings c.args.arrivals.items
    kept c.in_ok-worked.worked.spent.items _ c.in_err-close.field-0.0
    c.requires.making many work c.in_err-close.ensures.rejected)
