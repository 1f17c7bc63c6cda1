use Rattle.std.proofs.Common.{rules}
use Rattle.windowed.proofs.windowed.WindowedLimit.on_sample.Goals as goal

pub returns-then-rtt-min_rtt : goal.returns-then-rtt-min_rtt
returns-then-rtt-min_rtt c = search rules

pub returns-then-count-lt-MOST_SAMPLES : goal.returns-then-count-lt-MOST_SAMPLES
returns-then-count-lt-MOST_SAMPLES c = search rules

pub returns-then-size-count : goal.returns-then-size-count
returns-then-size-count c = search rules

pub returns-else-size-count : goal.returns-else-size-count
returns-else-size-count c = search rules
