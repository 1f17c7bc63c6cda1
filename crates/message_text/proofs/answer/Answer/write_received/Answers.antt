use Rattle.std.proofs.Common.{◌≡◌, ◌++◌, Some, ap, sym, ◌∙◌}
use Rattle.std.specs.Prelude.{codes}
use Rattle.message_fields.specs.Lengths.{length_digits}
use Rattle.message_text.specs.Answer.{received_lines}
use Rattle.message_text.specs.Line.{line_of, line_text, lines_text}
use Rattle.message_text.proofs.Fronts.{front_err, front_first, front_last}
use Rattle.message_text.proofs.Kept.{one_line}
use Rattle.message_text.proofs.Texts.{wrote_then}
use Rattle.message_text.proofs.answer.Answer.write_received.Goals as goal

pub returns-in_err-write_line-clause-front : goal.returns-in_err-write_line-clause-front
returns-in_err-write_line-clause-front g c =
    let line = line_of (codes "Content-Length") c.in-Some.digits.now in
    let is : length_digits c.args.self.now.headers.now ≡ Some c.in-Some.digits.now
    = sym c.in-Some.ensures in
    let text : lines_text (received_lines (length_digits c.args.self.now.headers.now))
    ≡ line_text line = ap (λ digits. lines_text (received_lines digits)) is ∙ one_line line in
    front_err _ _ _ _ _ (ap (λ text. text ++ c.args.rest.now) text)
    (front_first _ _ _ _ c.in_err-write_line.ensures.front)

pub returns-in-Some-clause-all : goal.returns-in-Some-clause-all
returns-in-Some-clause-all g c =
    let line = line_of (codes "Content-Length") c.in-Some.digits.now in
    let is : length_digits c.args.self.now.headers.now ≡ Some c.in-Some.digits.now
    = sym c.in-Some.ensures in
    let text : lines_text (received_lines (length_digits c.args.self.now.headers.now))
    ≡ line_text line = ap (λ digits. lines_text (received_lines digits)) is ∙ one_line line in
    wrote_then c.write_all.result _ _ _ _ _ _ (ap (λ text. text ++ c.args.rest.now) text)
    c.in_ok-write_line.ensures.all c.write_all.ensures.all

pub returns-in-Some-clause-front : goal.returns-in-Some-clause-front
returns-in-Some-clause-front g c =
    let line = line_of (codes "Content-Length") c.in-Some.digits.now in
    let is : length_digits c.args.self.now.headers.now ≡ Some c.in-Some.digits.now
    = sym c.in-Some.ensures in
    let text : lines_text (received_lines (length_digits c.args.self.now.headers.now))
    ≡ line_text line = ap (λ digits. lines_text (received_lines digits)) is ∙ one_line line in
    front_last c.write_all.result _ _ _ _ _ _ (ap (λ text. text ++ c.args.rest.now) text)
    c.in_ok-write_line.ensures.all c.write_all.ensures.front
