use Rattle.std.proofs.Common.{rules}
use Rattle.gate_config.proofs.window.read_window.Goals as goal

pub returns-clause-sound : goal.returns-clause-sound
returns-clause-sound c = search rules

pub returns-clause-value : goal.returns-clause-value
returns-clause-value c = search rules

pub returns-in_err-size-clause-value : goal.returns-in_err-size-clause-value
returns-in_err-size-clause-value c = search rules

pub returns-in_err-min_us-clause-value : goal.returns-in_err-min_us-clause-value
returns-in_err-min_us-clause-value c = search rules

pub returns-in_err-max_us-clause-value : goal.returns-in_err-max_us-clause-value
returns-in_err-max_us-clause-value c = search rules

pub returns-in_err-min_rtt_us-clause-value : goal.returns-in_err-min_rtt_us-clause-value
returns-in_err-min_rtt_us-clause-value c = search rules
