use Rattle.std.proofs.Common.{rules}
use Rattle.shared_gate.proofs.gate.SharedGate.set_limit.Goals as goal

pub returns : goal.returns
returns g c = search rules
