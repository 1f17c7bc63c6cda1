use Rattle.std.proofs.Common.{rules}
use Rattle.script.proofs.trace_line.read_trace_line.Goals as goal

pub returns-in_default : goal.returns-in_default
returns-in_default c = search rules

pub returns-then-is_comment : goal.returns-then-is_comment
returns-then-is_comment c = search rules

pub returns-in-Some-read_setting : goal.returns-in-Some-read_setting
returns-in-Some-read_setting c = search rules

pub returns-in_err-read_arrival : goal.returns-in_err-read_arrival
returns-in_err-read_arrival c = search rules

pub returns : goal.returns
returns c = search rules
