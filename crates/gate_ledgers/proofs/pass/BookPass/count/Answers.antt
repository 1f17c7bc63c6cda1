use Rattle.std.proofs.Common.{rules}
use Rattle.gate_ledgers.proofs.pass.BookPass.count.Goals as goal

pub returns : goal.returns
returns c = search rules
