use Rattle.std.proofs.Common.{rules}
use Rattle.gate_config.proofs.document.bypasses_in.Goals as goal

pub returns-in_err-check_bypasses-clause-fault : goal.returns-in_err-check_bypasses-clause-fault
returns-in_err-check_bypasses-clause-fault c = search rules

pub returns-clause-settled : goal.returns-clause-settled
returns-clause-settled c = search rules

pub returns-clause-tables : goal.returns-clause-tables
returns-clause-tables c = search rules
