use Rattle.std.proofs.Common.{subst, codes}
use Rattle.gate_config.specs.Fault.{fault_text}
use Rattle.fault_lines.specs.FaultLine.{IsTold, fault_line}
use Rattle.config_file.proofs.Pieces.{word_and_three}
use Rattle.config_file.proofs.file_fault.report_config_fault.Goals as goal

-- the pieces make the fault's text
pub returns : goal.returns
returns g c =
    let pieces = c.pieces.result in
    let errors = c.args.errors.now in
    subst
    (λ text. IsTold g.E.Write.contents errors c.report_fault.new.errors (fault_line text))
    (word_and_three (codes "config: ") pieces.0.now pieces.1.now pieces.2.now
    (fault_text c.args.fault.now) c.pieces.ensures)
    c.report_fault.ensures
