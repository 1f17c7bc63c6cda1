use Rattle.std.proofs.Common.{rules}
use Rattle.script.proofs.window_line.read_window.Goals as goal

pub returns-in_err-size : goal.returns-in_err-size
returns-in_err-size c = search rules

pub returns-in_err-min_window_ns : goal.returns-in_err-min_window_ns
returns-in_err-min_window_ns c = search rules

pub returns-in_err-max_window_ns : goal.returns-in_err-max_window_ns
returns-in_err-max_window_ns c = search rules

pub returns : goal.returns
returns c = search rules
