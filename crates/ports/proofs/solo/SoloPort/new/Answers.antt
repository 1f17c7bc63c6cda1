use Rattle.std.proofs.Common.{rules}
use Rattle.ports.proofs.solo.SoloPort.new.Goals as goal

pub returns : goal.returns
returns g c = search rules
