use Rattle.std.proofs.Common.{rules}
use Rattle.fault_lines.proofs.fault_line.report_fault.Goals as goal

pub returns : goal.returns
returns g c = search rules
