use Rattle.std.proofs.Common.{ap, subst, ◌++◌}
use Rattle.gate_word.specs.Rule.{AreApart}
use Rattle.gate_word.proofs.word.SharedLogLength.take_back.Goals as goal

pub returns-clause-apart : goal.returns-clause-apart
returns-clause-apart g c =
    subst (λ l. AreApart (c.args.reader.own ++ l)) (ap (λ v. v.own) c.keeper.view_is)
    (subst (λ l. AreApart (l ++ c.keeper.inside.seat.me.0.own)) (ap (λ v. v.own) c.reader.view_is)
    c.compare.ensures.apart)
