use Rattle.std.proofs.Common.{rules}
use Rattle.gate_config.proofs.TableMembers.{items_back}
use Rattle.gate_config.proofs.table.items_of.Goals as goal

pub returns-in-Some : goal.returns-in-Some
returns-in-Some c = search (rules, items_back)
