use Rattle.std.proofs.Common.{ap, ◌∙◌, inl, inr, ⊎_elim}
use Rattle.gate_word.specs.Rule.{longer}
use Rattle.gate_word.proofs.Beginnings.{longer_one}
use Rattle.gate_word.proofs.word.SharedLogLength.tell.Goals as goal

pub returns-clause-one : goal.returns-clause-one
returns-clause-one g c =
    let l = c.learn.ensures in
    let own = c.reader.inside.seat.me.0.log in
    let told = c.told_by-told.result.me.0.log in
    let is = ap (λ m. m.0.log) l.reader in
    let theirs = ap (λ m. m.0.log) c.told_by-told.ensures.told ∙ ap (λ v. v.log) c.other.view_is in
    ⊎_elim (λ p. inl (is ∙ (p ∙ ap (λ v. v.log) c.reader.view_is)))
    (λ p. inr (is ∙ (p ∙ theirs)))
    (longer_one own told (longer own told) l.own l.told)
