use Rattle.gate_config.proofs.top.read_kept.Goals as goal

pub returns-in-Err-clause-value : goal.returns-in-Err-clause-value
returns-in-Err-clause-value c = rw c.in-Two.is c.in-Err.ensures.value
