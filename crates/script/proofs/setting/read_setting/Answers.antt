use Rattle.std.proofs.Common.{rules}
use Rattle.script.proofs.setting.read_setting.Goals as goal

pub returns-then-is_word-3 : goal.returns-then-is_word-3
returns-then-is_word-3 c = search rules

pub returns-then-is_word-4 : goal.returns-then-is_word-4
returns-then-is_word-4 c = search rules

pub returns-then-is_word-7 : goal.returns-then-is_word-7
returns-then-is_word-7 c = search rules

pub returns-else-is_word-9 : goal.returns-else-is_word-9
returns-else-is_word-9 c = search rules

pub returns-in_ok-room : goal.returns-in_ok-room
returns-in_ok-room c = search rules

pub returns-in_err-room : goal.returns-in_err-room
returns-in_err-room c = search rules

pub returns-in_ok-nanos : goal.returns-in_ok-nanos
returns-in_ok-nanos c = search rules

pub returns-in_err-nanos : goal.returns-in_err-nanos
returns-in_err-nanos c = search rules

pub returns-in_ok-rule : goal.returns-in_ok-rule
returns-in_ok-rule c = search rules

pub returns-in_err-rule : goal.returns-in_err-rule
returns-in_err-rule c = search rules

pub returns-then-is_word-5 : goal.returns-then-is_word-5
returns-then-is_word-5 c = search rules
