use Rattle.std.proofs.Common.{rules}
use Rattle.audit.proofs.cover.first_uncovered.Goals as goal

pub loop-number-init : goal.loop-number-init
loop-number-init c = search rules

pub loop-number-smaller : goal.loop-number-smaller
loop-number-smaller c = search rules
