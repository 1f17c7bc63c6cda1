use Rattle.std.proofs.Common.{rules}
use Rattle.gate_config.proofs.bypass.read_header.Goals as goal

pub returns-in_err-header : goal.returns-in_err-header
returns-in_err-header c = search rules

pub returns-in_err-equals : goal.returns-in_err-equals
returns-in_err-equals c = search rules

pub returns : goal.returns
returns c = search rules
