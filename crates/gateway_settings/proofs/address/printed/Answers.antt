use Rattle.std.proofs.Common.{rules}
use Rattle.gateway_settings.proofs.address.printed.Goals as goal

pub returns : goal.returns
returns c = search rules
