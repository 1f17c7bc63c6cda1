use Rattle.std.proofs.Common.{rules}
use Rattle.shared_gate.proofs.pass.with_readers.Goals as goal

pub returns-in_err-made-clause-keeper : goal.returns-in_err-made-clause-keeper
returns-in_err-made-clause-keeper g c = search rules

pub returns-in_err-made-clause-passes : goal.returns-in_err-made-clause-passes
returns-in_err-made-clause-passes g c = search rules

pub loop-pass-init : goal.loop-pass-init
loop-pass-init g c = search rules

pub push_reserved-requires : goal.push_reserved-requires
push_reserved-requires g c = search rules

pub returns-clause-keeper : goal.returns-clause-keeper
returns-clause-keeper g c = search rules
