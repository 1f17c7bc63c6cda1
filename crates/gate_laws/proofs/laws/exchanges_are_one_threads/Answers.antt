use Rattle.gate_laws.proofs.Exchanges.{exchanges_are_one_threads}
use Rattle.gate_laws.proofs.laws.exchanges_are_one_threads.Goals as goal

pub returns : goal.returns
returns g c = λ gate. exchanges_are_one_threads gate
    (c.running_gates_are_one_threads.ensures gate)
    (c.no_waiter_with_room_is_left.ensures gate)
