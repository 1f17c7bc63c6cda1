use Rattle.std.proofs.Common.{rules}
use Rattle.gate_history.proofs.handing.grant.Goals as goal

pub returns-in-Promotion : goal.returns-in-Promotion
returns-in-Promotion g c = search rules
