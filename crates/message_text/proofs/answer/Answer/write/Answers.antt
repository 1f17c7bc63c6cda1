use Rattle.std.proofs.Common.{◌≡◌, [], ◌∙◌, ap, List, ℕ, Option}
use Rattle.std.specs.Prelude.{unwrap_or}
use Rattle.std.proofs.KnownBytes.{Appends-trans}
use Rattle.message_text.specs.Answer.{written_body, seen}
use Rattle.message_text.proofs.Texts.{wrote_then, answer_whole}
use Rattle.message_text.proofs.Fronts.{front_err, front_first, front_last, front_second}
use Rattle.message_text.proofs.answer.Answer.write.Goals as goal

pub returns-clause-all : goal.returns-clause-all
returns-clause-all g c =
    let body : c.bytes_of.result.now ≡ unwrap_or (written_body (seen c.args.self.now)) [] =
    c.bytes_of.ensures
    ∙ ap (λ (o : Option (List ℕ)). unwrap_or o []) c.written_body.ensures in
    wrote_then c.write_and_flush.result _ _ _ _ _ _ (answer_whole (seen c.args.self.now))
    (Appends-trans _ _ _ _ _ c.in_ok-write_front.ensures.all c.in_ok-write_last.ensures.all)
    (rw body at c.write_and_flush.ensures.all)

pub returns-in_err-write_front-clause-front : goal.returns-in_err-write_front-clause-front
returns-in_err-write_front-clause-front g c =
    front_err _ _ _ _ _ (answer_whole (seen c.args.self.now))
    (front_first _ _ _ _ (front_first _ _ _ _ c.in_err-write_front.ensures.front))

pub returns-in_err-write_last-clause-front : goal.returns-in_err-write_last-clause-front
returns-in_err-write_last-clause-front g c =
    front_err _ _ _ _ _ (answer_whole (seen c.args.self.now))
    (front_first _ _ _ _
    (front_second _ _ _ _ _ c.in_ok-write_front.ensures.all c.in_err-write_last.ensures.front))

pub returns-clause-front : goal.returns-clause-front
returns-clause-front g c =
    let body : c.bytes_of.result.now ≡ unwrap_or (written_body (seen c.args.self.now)) [] =
    c.bytes_of.ensures
    ∙ ap (λ (o : Option (List ℕ)). unwrap_or o []) c.written_body.ensures in
    front_last c.write_and_flush.result _ _ _ _ _ _ (answer_whole (seen c.args.self.now))
    (Appends-trans _ _ _ _ _ c.in_ok-write_front.ensures.all c.in_ok-write_last.ensures.all)
    (rw body at c.write_and_flush.ensures.front)
