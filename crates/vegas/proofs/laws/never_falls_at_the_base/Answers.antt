use Rattle.vegas.proofs.AtBase.{never_falls}
use Rattle.vegas.proofs.laws.never_falls_at_the_base.Goals as goal

pub returns : goal.returns
returns c = never_falls
