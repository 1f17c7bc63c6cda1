use Rattle.shared_gate.proofs.Running.{running_is_one_threads}
use Rattle.shared_gate.proofs.laws.running_gates_are_one_threads.Goals as goal

pub returns : goal.returns
returns g c = λ gate. running_is_one_threads gate (c.turned_away_only_when_full.ensures gate)
