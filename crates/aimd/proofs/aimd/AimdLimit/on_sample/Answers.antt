use Rattle.std.proofs.Common.{rules}
use Rattle.aimd.proofs.aimd.AimdLimit.on_sample.Goals as goal

pub returns : goal.returns
returns c = search rules
