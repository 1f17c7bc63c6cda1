use Rattle.std.proofs.Common.{rules}
use Rattle.auto.proofs.moving.half_way.Goals as goal

pub returns : goal.returns
returns c = search rules
