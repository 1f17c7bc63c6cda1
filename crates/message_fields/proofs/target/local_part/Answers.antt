use Rattle.std.proofs.Common.{arith, rules}
use Rattle.std.proofs.lemmas.Grind.{common_steps}
use Rattle.message_fields.proofs.target.local_part.Goals as goal

pub returns-then-not-is_absolute : goal.returns-then-not-is_absolute
returns-then-not-is_absolute c = search rules

pub returns : goal.returns
returns c = grind (arith, common_steps)
