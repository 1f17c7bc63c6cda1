use Rattle.std.proofs.Common.{rules}
use Rattle.script.proofs.request.read_short.Goals as goal

pub returns-then-is_word-2 : goal.returns-then-is_word-2
returns-then-is_word-2 c = search rules

pub returns-in_err-number : goal.returns-in_err-number
returns-in_err-number c = search rules

pub returns-then-is_word : goal.returns-then-is_word
returns-then-is_word c = search rules

pub returns-then-is_word-3 : goal.returns-then-is_word-3
returns-then-is_word-3 c = search rules

pub returns-then-is_word-4 : goal.returns-then-is_word-4
returns-then-is_word-4 c = search rules

pub returns-else-is_word-4 : goal.returns-else-is_word-4
returns-else-is_word-4 c = search rules
