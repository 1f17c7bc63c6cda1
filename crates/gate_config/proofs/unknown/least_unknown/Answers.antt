use Rattle.std.proofs.Common.{rules}
use Rattle.gate_config.proofs.TableMembers.{names_view}
use Rattle.gate_config.proofs.unknown.least_unknown.Goals as goal

pub loop-name-init : goal.loop-name-init
loop-name-init c = rw (names_view c.args.table.now) (search rules)
