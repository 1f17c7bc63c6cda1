use Rattle.std.proofs.Common.{rules}
use Rattle.lifo_backlog.proofs.occupancy.Occupancy.has_place.Goals as goal

pub returns-then-self-place : goal.returns-then-self-place
returns-then-self-place c = search rules
