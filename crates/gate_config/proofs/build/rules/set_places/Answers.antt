use Rattle.std.proofs.Common.{arith, ◌∙◌, ◌<◌, length}
use Rattle.std.proofs.lemmas.Grind.{common_steps}
use Rattle.gate_config.proofs.Places.{next_class}
use Rattle.gate_config.proofs.build.rules.set_places.Goals as goal

pub loop-row-preserved : goal.loop-row-preserved
loop-row-preserved c =
    let below : c.loop-row.row < length c.args.classes.now = grind (arith, common_steps) in
    c.set_places.ensures
    ∙ next_class c.args.classes.now c.loop-row.table c.loop-row.row _ below c.loop-row.invariant
