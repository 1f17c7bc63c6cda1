use Rattle.std.proofs.Common.{rules}
use Rattle.seats.proofs.seats.make_room.Goals as goal

pub returns : goal.returns
returns g c = search rules
