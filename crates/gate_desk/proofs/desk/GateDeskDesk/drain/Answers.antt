use Rattle.std.proofs.Common.{refl}
use Rattle.gate_desk.proofs.States.{closed_there}
use Rattle.gate_desk.proofs.desk.GateDeskDesk.drain.Goals as goal

pub returns : goal.returns
returns g c = (
  (
    closed_there c.args.self.now.table c.args.self.now.pass _ _ _ c.close.ensures.listener
        c.close.ensures.shut,
    c.close.ensures.closed,
  ),
  record {
    rt = refl;
    gate = refl;
    watch = refl;
    own = refl;
    lame_duck = refl;
    clock = refl;
    most = refl;
  },
)
