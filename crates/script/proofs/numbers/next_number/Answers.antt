use Rattle.std.proofs.Common.{rules}
use Rattle.script.proofs.numbers.next_number.Goals as goal

pub returns-clause-first : goal.returns-clause-first
returns-clause-first c = search rules
