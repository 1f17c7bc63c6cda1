use Rattle.shared_gate.proofs.Rising.{never, rise}
use Rattle.shared_gate.proofs.laws.receipts_of_a_pass_rise.Goals as goal

pub returns-clause-rise : goal.returns-clause-rise
returns-clause-rise c = rise

pub returns-clause-order : goal.returns-clause-order
returns-clause-order c = never
