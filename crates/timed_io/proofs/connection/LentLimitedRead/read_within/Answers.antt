use Rattle.std.proofs.Common.{rules}
use Rattle.timed_io.proofs.connection.LentLimitedRead.read_within.Goals as goal

pub receive-requires : goal.receive-requires
receive-requires g c = search rules
