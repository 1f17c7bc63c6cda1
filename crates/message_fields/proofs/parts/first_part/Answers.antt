use Rattle.std.proofs.Common.{rules}
use Rattle.message_fields.proofs.First.{parts_first}
use Rattle.message_fields.proofs.parts.first_part.Goals as goal

pub returns : goal.returns
returns c = let first = parts_first c.args.value.now in rw first.1 (search rules)
