use Rattle.std.proofs.Common.{rules}
use Rattle.script.proofs.line.read_line.Goals as goal

pub returns-in_err-read_request : goal.returns-in_err-read_request
returns-in_err-read_request c = search rules

pub returns-in_default : goal.returns-in_default
returns-in_default c = search rules

pub returns-then-is_comment : goal.returns-then-is_comment
returns-then-is_comment c = search rules

pub returns-in-Some-read_setting : goal.returns-in-Some-read_setting
returns-in-Some-read_setting c = search rules

pub returns : goal.returns
returns c = search rules
