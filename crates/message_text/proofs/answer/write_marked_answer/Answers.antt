use Rattle.std.proofs.Common.{rules, ◌≡◌, ◌∙◌, ◌++◌, ◌∷◌, ap, codes, sym}
use Rattle.std.proofs.KnownBytes.{Appends-trans}
use Rattle.message_text.specs.Answer.{status_text}
use Rattle.message_text.specs.Line.{close_lines, line_of, line_text, lines_text}
use Rattle.message_text.proofs.Texts.{marked_whole, wrote_then}
use Rattle.message_text.proofs.Fronts.{front_err, front_first, front_last, front_second}
use Rattle.message_text.proofs.answer.write_marked_answer.Goals as goal

pub returns-clause-all : goal.returns-clause-all
returns-clause-all g c =
    let same : c.as_bytes.result.now ≡ c.args.mark.now = search rules in
    wrote_then c.write_and_flush.result _ _ _ _ _ _
    (marked_whole c.args.persistence c.args.status c.args.mark.now
    ∙ ap (λ mark. (status_text c.args.status ++ line_text (line_of (codes "X-Admission") mark))
    ++ (lines_text (line_of (codes "Content-Length") (codes "0") ∷ close_lines c.args.persistence)
    ++ codes "\r\n")) (sym same))
    (Appends-trans _ _ _ _ _ c.in_ok-write_status.ensures.all c.in_ok-write_line.ensures.all)
    (rw c.local_rest.ensures at c.write_and_flush.ensures.all)

pub returns-in_err-write_status-clause-front : goal.returns-in_err-write_status-clause-front
returns-in_err-write_status-clause-front g c =
    front_err _ _ _ _ _ (marked_whole c.args.persistence c.args.status c.args.mark.now)
    (front_first _ _ _ _ (front_first _ _ _ _ c.in_err-write_status.ensures.front))

pub returns-in_err-write_line-clause-front : goal.returns-in_err-write_line-clause-front
returns-in_err-write_line-clause-front g c =
    let same : c.as_bytes.result.now ≡ c.args.mark.now = search rules in
    front_err _ _ _ _ _ (marked_whole c.args.persistence c.args.status c.args.mark.now)
    (front_first _ _ _ _
    (front_second _ _ _ _ _ c.in_ok-write_status.ensures.all
    (rw same at c.in_err-write_line.ensures.front)))

pub returns-clause-front : goal.returns-clause-front
returns-clause-front g c =
    let same : c.as_bytes.result.now ≡ c.args.mark.now = search rules in
    front_last c.write_and_flush.result _ _ _ _ _ _
    (marked_whole c.args.persistence c.args.status c.args.mark.now)
    (Appends-trans _ _ _ _ _ c.in_ok-write_status.ensures.all
    (rw same at c.in_ok-write_line.ensures.all))
    (rw c.local_rest.ensures at c.write_and_flush.ensures.front)
