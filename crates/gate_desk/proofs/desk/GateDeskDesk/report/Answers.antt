use Rattle.std.proofs.Common.{refl}
use Rattle.gate_desk.proofs.desk.GateDeskDesk.report.Goals as goal

pub returns : goal.returns
returns g c = (
  (c.report_to.ensures, refl),
  record {
    rt = refl;
    gate = refl;
    watch = refl;
    own = refl;
    lame_duck = refl;
    clock = refl;
    most = refl;
  },
)
