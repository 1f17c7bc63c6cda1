use Rattle.std.proofs.Common.{rules}
use Rattle.gateway_settings.proofs.address.Address.socket.Goals as goal

pub returns-clause-text : goal.returns-clause-text
returns-clause-text c = search rules

pub returns-clause-port : goal.returns-clause-port
returns-clause-port c = search rules
