use Rattle.std.proofs.Common.{rules, false, subst}
use Rattle.handling.specs.Doors.{failed_of, given_of}
use Rattle.operator_serving.specs.Memory.{refused_of}
use Rattle.operator_serving.specs.Stands.{stand}
use Rattle.gate_desk.specs.State.{state_of}
use Rattle.gate_desk.proofs.States.{from_nothing, looks_of, served_of}
use Rattle.gate_desk.proofs.operator.OperatorTask.run.Goals as goal

pub returns : goal.returns
returns g c =
    let common = c.args.self.common.now in
    let door = c.new-door.ensures in (
      stand (state_of c.operate.new.served.desk) (given_of c.operate.new.door)
          (failed_of c.operate.new.door) (refused_of c.operate.new.served.memory),
      record {
        served =
            from_nothing _ g.L.Listener.came _ _ _ _ door.opens_to door.given door.failed
            c.new-memory.ensures (served_of _ _ _ _ _ _ _ _ _ _ _ _ _ _ _ c.operate.ensures.served);
        looks = λ anyone. looks_of _ _ _ _ _ _ _ _ _ _ common.page.now _ _
            (c.operate.ensures.looks anyone);
        ended = subst (λ listener. g.L.Listener.found listener false) door.opens_to
            c.operate.ensures.shut;
      },
      search rules,
    )
