use Rattle.operator_serving.proofs.served_desk.ServedDeskHandlerOperating.handle.Goals as goal

pub returns-clause-handled : goal.returns-clause-handled
returns-clause-handled g c =
    let made = c.attend.ensures in
    record {
      attended = made.attended;
      broken = made.broken;
      reads = made.reads;
      writes = made.writes;
      looks = made.looks;
    }
