use Rattle.std.proofs.Common.{arith}
use Rattle.std.proofs.lemmas.Grind.{common_steps}
use Rattle.load_run.proofs.Working.{begins_with}
use Rattle.load_run.proofs.worker.work.Goals as goal

pub loop-place-init : goal.loop-place-init
loop-place-init g c =
    begins_with c.args.context.now.workers c.args.number _ _ _ c.clear.ensures.items
    c.clear-2.ensures.items

pub returns : goal.returns
returns g c = grind (arith, common_steps)
