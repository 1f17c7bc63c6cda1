use Rattle.std.proofs.Common.{rules}
use Rattle.script.proofs.request.read_outcome.Goals as goal

pub returns-then-is_word : goal.returns-then-is_word
returns-then-is_word c = search rules

pub returns-then-is_word-2 : goal.returns-then-is_word-2
returns-then-is_word-2 c = search rules

pub returns-then-is_word-3 : goal.returns-then-is_word-3
returns-then-is_word-3 c = search rules

pub returns-else-is_word-3 : goal.returns-else-is_word-3
returns-else-is_word-3 c = search rules
