use Rattle.std.proofs.Common.{ap, ◌∙◌, subst, sym, ◌≡◌}
use mathlib.Core.List.{IsPrefix}
use Rattle.gate_word.proofs.Beginnings.{longer_whole}
use Rattle.gate_word.proofs.word.SharedLogLength.show.Goals as goal

pub returns-clause-reader : goal.returns-clause-reader
returns-clause-reader g c =
    let known = c.told_by-told.new.seat.me.0.log in
    let told = c.told_by-told-2.result.me.0.log in
    let first = c.told_by-told.ensures in
    let second = c.told_by-told-2.ensures in
    let shows : told ≡ c.keeper.inside.seat.me.0.log =
    ap (λ m. m.0.log) second.told ∙ ap (λ m. m.0.log) c.compare.ensures.keeper in
    let said : c.told_by-told.result.me.0.log ≡ known =
    ap (λ m. m.0.log) first.told ∙ sym (ap (λ m. m.0.log) first.same) in
    let begins : IsPrefix known told = subst (λ l. IsPrefix known l) (sym shows)
    (subst (λ l. IsPrefix l c.keeper.inside.seat.me.0.log) said c.compare.ensures.begins) in
    ap (λ m. m.0.log) c.learn.ensures.reader
    ∙ (longer_whole known told begins ∙ (shows ∙ ap (λ v. v.log) c.keeper.view_is))
