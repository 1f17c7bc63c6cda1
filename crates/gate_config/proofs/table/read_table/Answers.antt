use Rattle.std.proofs.Common.{rules}
use Rattle.gate_config.proofs.table.read_table.Goals as goal

pub returns-in-None : goal.returns-in-None
returns-in-None c = search rules
