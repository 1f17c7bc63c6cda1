use Rattle.std.proofs.Common.{rules}
use Rattle.gate_config.proofs.number.read_number.Goals as goal

pub returns-in-None-clause-within : goal.returns-in-None-clause-within
returns-in-None-clause-within c = search rules

pub returns-in-None-clause-value : goal.returns-in-None-clause-value
returns-in-None-clause-value c = search rules

pub returns-in-Some-default-clause-within : goal.returns-in-Some-default-clause-within
returns-in-Some-default-clause-within c = search rules

pub returns-in-Some-default-clause-value : goal.returns-in-Some-default-clause-value
returns-in-Some-default-clause-value c = search rules

pub returns-in-Some-as_integer-clause-within : goal.returns-in-Some-as_integer-clause-within
returns-in-Some-as_integer-clause-within c = search rules

pub returns-in-Some-as_integer-clause-value : goal.returns-in-Some-as_integer-clause-value
returns-in-Some-as_integer-clause-value c = search rules

pub returns-in-None-as_integer-clause-within : goal.returns-in-None-as_integer-clause-within
returns-in-None-as_integer-clause-within c = search rules

pub returns-in-None-as_integer-clause-value : goal.returns-in-None-as_integer-clause-value
returns-in-None-as_integer-clause-value c = search rules
