use Rattle.std.proofs.Common.{ap, ◌∙◌, subst, ◌≡◌}
use mathlib.Core.List.{IsPrefix}
use Rattle.gate_word.proofs.word.SharedLogLength.raise.Goals as goal

pub returns-clause-before : goal.returns-clause-before
returns-clause-before g c =
    let noted = c.note.new.seat.me.0 in
    let before : noted.note ≡ c.args.reader.now.log =
    ap (λ m. m.0.note) c.note.ensures.seat
    ∙ (ap (λ s. s.me.0.log) c.replace-seat.ensures.value ∙ ap (λ v. v.log) c.reader.view_is) in
    let log : noted.log ≡ c.args.keeper.now.log =
    ap (λ m. m.0.log) c.note.ensures.seat
    ∙ (ap (λ m. m.0.log) c.told_by-blank.ensures.same ∙ ap (λ v. v.log) c.keeper.view_is) in
    subst (λ l. IsPrefix l c.args.keeper.now.log) before
    (subst (λ l. IsPrefix noted.note l) log c.lift.ensures.noted)
