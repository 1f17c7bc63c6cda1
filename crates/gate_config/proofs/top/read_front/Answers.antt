use Rattle.std.proofs.Common.{rules}
use Rattle.gate_config.proofs.top.read_front.Goals as goal

pub returns-in_err-listen-clause-value : goal.returns-in_err-listen-clause-value
returns-in_err-listen-clause-value c = search rules

pub returns-in_err-backend-clause-value : goal.returns-in_err-backend-clause-value
returns-in_err-backend-clause-value c = search rules

pub returns-in_err-backlog-clause-value : goal.returns-in_err-backlog-clause-value
returns-in_err-backlog-clause-value c = search rules

pub returns-in_err-wait-clause-value : goal.returns-in_err-wait-clause-value
returns-in_err-wait-clause-value c = search rules

pub returns-in_err-timeout_ms-clause-value : goal.returns-in_err-timeout_ms-clause-value
returns-in_err-timeout_ms-clause-value c = search rules

pub returns-clause-value : goal.returns-clause-value
returns-clause-value c = search rules
