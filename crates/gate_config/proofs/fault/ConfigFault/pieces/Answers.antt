use Rattle.std.proofs.Common.{rules}
use Rattle.gate_config.proofs.fault.ConfigFault.pieces.Goals as goal

pub returns-in-Memory : goal.returns-in-Memory
returns-in-Memory c = search rules

pub returns-in-Toml : goal.returns-in-Toml
returns-in-Toml c = search rules

pub returns-in-Version : goal.returns-in-Version
returns-in-Version c = search rules

pub returns-in-Missing : goal.returns-in-Missing
returns-in-Missing c = search rules

pub returns-in-Kind : goal.returns-in-Kind
returns-in-Kind c = search rules

pub returns-in-Value : goal.returns-in-Value
returns-in-Value c = search rules

pub returns-in-Unknown : goal.returns-in-Unknown
returns-in-Unknown c = search rules

pub returns-in-Route : goal.returns-in-Route
returns-in-Route c = search rules
