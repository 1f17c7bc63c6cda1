use Rattle.std.proofs.Common.{rules}
use Rattle.aimd.proofs.aimd.Aimd.of.Goals as goal

pub returns-then-lo-lt1-clause-made : goal.returns-then-lo-lt1-clause-made
returns-then-lo-lt1-clause-made c = search rules

pub returns-then-lo-lt1-clause-value : goal.returns-then-lo-lt1-clause-value
returns-then-lo-lt1-clause-value c = search rules

pub returns-then-timeout-lt1-clause-made : goal.returns-then-timeout-lt1-clause-made
returns-then-timeout-lt1-clause-made c = search rules

pub returns-then-timeout-lt1-clause-value : goal.returns-then-timeout-lt1-clause-value
returns-then-timeout-lt1-clause-value c = search rules

pub returns-then-ratio-lt-LEAST_RATIO-clause-made
    : goal.returns-then-ratio-lt-LEAST_RATIO-clause-made
returns-then-ratio-lt-LEAST_RATIO-clause-made c = search rules

pub returns-then-ratio-lt-LEAST_RATIO-clause-value
    : goal.returns-then-ratio-lt-LEAST_RATIO-clause-value
returns-then-ratio-lt-LEAST_RATIO-clause-value c = search rules

pub returns-clause-made : goal.returns-clause-made
returns-clause-made c = search rules

pub returns-clause-value : goal.returns-clause-value
returns-clause-value c = search rules
