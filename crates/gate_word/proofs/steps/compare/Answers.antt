use Rattle.std.proofs.Common.{arith, ap, ◌∙◌, subst, ◌++◌}
use Rattle.gate_word.specs.Rule.{AreApart}
use Rattle.gate_word.proofs.Moves.{compares}
use Rattle.gate_word.proofs.steps.compare.Goals as goal

pub load-requires : goal.load-requires
load-requires g c =
    let e = c.note.ensures in
    let r = c.requires in (
      e.table ∙ r.table,
      omega (arith, r.word),
      compares _ _ _ (ap (λ m. m.0.keeps) e.seat ∙ ap (λ m. m.0.keeps) r.keeper),
    )

pub returns-clause-apart : goal.returns-clause-apart
returns-clause-apart g c =
    subst (λ m. AreApart (m.0.came ++ m.0.own)) c.note.ensures.seat c.load.ensures.2.2
