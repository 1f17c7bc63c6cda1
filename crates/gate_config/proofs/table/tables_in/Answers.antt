use Rattle.std.proofs.Common.{rules}
use Rattle.gate_config.proofs.table.tables_in.Goals as goal

pub returns-then-not-are_tables-clause-few : goal.returns-then-not-are_tables-clause-few
returns-then-not-are_tables-clause-few c = search rules

pub returns-then-not-are_tables-clause-value : goal.returns-then-not-are_tables-clause-value
returns-then-not-are_tables-clause-value c = search rules
