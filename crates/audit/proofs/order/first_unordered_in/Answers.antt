use Rattle.std.proofs.Common.{rules}
use Rattle.audit.proofs.order.first_unordered_in.Goals as goal

pub loop-place-init : goal.loop-place-init
loop-place-init g c = search rules

pub loop-place-smaller : goal.loop-place-smaller
loop-place-smaller g c = search rules
