use Rattle.std.proofs.Common.{rules, ◌≡◌, true}
use Rattle.fault_lines.specs.FaultLine.{fault_line}
use Rattle.load_driver.specs.Driver.{fault_text}
use Rattle.line_explain.specs.Kept.{kept_of}
use Rattle.line_explain.specs.Lacking.{HasLacked}
use Rattle.text_commands.specs.Scripts.{IsMore, kind_of}
use Rattle.text_commands.proofs.BehindFault.{told_and_more}
use Rattle.text_commands.proofs.scripts.tell.Goals as goal

pub returns : goal.returns
returns g c =
    let asked : c.args.explain ≡ true = search rules in
    told_and_more c.args.explain g.E.Write.contents c.args.errors.now
    c.report_driver_fault.new.errors c.explain_fault.new.errors
    (fault_line (fault_text c.args.fault))
    (IsMore (HasLacked c.args.explainer.now c.explain_fault.new.explainer) (kind_of c.args.task)
    (kept_of c.args.reader.now) g.E.Write.contents c.args.fault)
    asked c.report_driver_fault.ensures c.explain_fault.ensures
