use Rattle.auto.proofs.Drops.{drops_never_raise}
use Rattle.auto.proofs.laws.drops_never_raise.Goals as goal

pub returns : goal.returns
returns c = drops_never_raise
