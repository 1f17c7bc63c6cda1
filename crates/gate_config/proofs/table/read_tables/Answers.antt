use Rattle.std.proofs.Common.{rules}
use Rattle.gate_config.proofs.table.read_tables.Goals as goal

pub returns-in_default-clause-few : goal.returns-in_default-clause-few
returns-in_default-clause-few c = search rules

pub returns-in_default-clause-value : goal.returns-in_default-clause-value
returns-in_default-clause-value c = search rules

pub returns-clause-few : goal.returns-clause-few
returns-clause-few c = search rules

pub returns-clause-value : goal.returns-clause-value
returns-clause-value c = search rules
