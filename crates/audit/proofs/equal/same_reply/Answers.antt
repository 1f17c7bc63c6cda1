use Rattle.std.proofs.Common.{rules}
use Rattle.audit.proofs.equal.same_reply.Goals as goal

pub returns : goal.returns
returns c = search rules
