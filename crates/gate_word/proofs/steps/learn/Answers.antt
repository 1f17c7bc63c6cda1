use Rattle.std.proofs.Common.{arith, ap, ◌∙◌}
use Rattle.gate_word.proofs.Moves.{takes}
use Rattle.gate_word.proofs.steps.learn.Goals as goal

pub load-requires : goal.load-requires
load-requires g c =
    let e = c.note.ensures in
    let r = c.requires in (
      e.table ∙ r.table,
      omega (arith, r.word),
      takes _ _ _ (ap (λ m. m.0.keeps) e.seat ∙ ap (λ m. m.0.keeps) r.reader),
    )
