use Rattle.std.proofs.Common.{rules, ◌≡◌, true}
use Rattle.fault_lines.specs.FaultLine.{fault_line}
use Rattle.line_explain.specs.Kept.{kept_of}
use Rattle.line_explain.specs.Lacking.{HasLacked}
use Rattle.text_commands.specs.Loads.{IsMore, load_fault_text}
use Rattle.text_commands.proofs.BehindFault.{told_and_more}
use Rattle.text_commands.proofs.loads.tell.Goals as goal

pub returns : goal.returns
returns g c =
    let asked : c.args.explain ≡ true = search rules in
    told_and_more c.args.explain g.E.Write.contents c.args.errors.now c.report_load_fault.new.errors
    c.explain_fault.new.errors (fault_line (load_fault_text c.args.fault))
    (IsMore (HasLacked c.args.explainer.now c.explain_fault.new.explainer)
    (kept_of c.args.reader.now) g.E.Write.contents c.args.fault) asked
    c.report_load_fault.ensures c.explain_fault.ensures
