use Rattle.std.proofs.Common.{rules}
use Rattle.gate_ledgers.proofs.tally.Tally.take_back.Goals as goal

pub returns-clause-calls : goal.returns-clause-calls
returns-clause-calls c = search rules

pub returns-clause-passes : goal.returns-clause-passes
returns-clause-passes c = search rules

pub returns-clause-few : goal.returns-clause-few
returns-clause-few c = search rules

pub returns-clause-same : goal.returns-clause-same
returns-clause-same c = search rules

pub invariant_of-returned : goal.invariant_of-returned
invariant_of-returned c = search rules
