use Rattle.std.proofs.Common.{rules}
use Rattle.wire.proofs.response.Response.new.Goals as goal

pub returns : goal.returns
returns c = search rules
