-- That a message which is written can be read in one way alone.
use Rattle.std.specs.Prelude.{◌≡◌, ◌≤◌, [], ◌∷◌, ◌++◌, filter, codes, unwrap_or}
use Rattle.std.specs.List.{concat}
use Rattle.message_fields.specs.Lines.{is_named, count_named}
use Rattle.message_text.specs.Forwarded.{ForwardedValue, forwarded_lines, length_lines}
use Rattle.message_text.specs.Line.{close_lines, lines_text}
use Rattle.message_text.specs.Answer.{AnswerValue, answer_lines, answer_text, front_text, told_lines, written_body}

-- of the lines that are forwarded exactly one is Host, where at most one came
abbrev pub TellsOneHost : ForwardedValue → Type 0
TellsOneHost request =
    count_named (codes "host") request.headers ≤ 1
    → count_named (codes "host") (forwarded_lines request) ≡ 1

-- the lines of Content-Length are one with the length of the body, or none without a body
abbrev pub TellsItsLength : ForwardedValue → Type 0
TellsItsLength request =
    filter (is_named (codes "content-length")) (forwarded_lines request)
    ≡ length_lines request.body

-- no line is Transfer-Encoding
abbrev pub TellsNoCoding : ForwardedValue → Type 0
TellsNoCoding request =
    filter (is_named (codes "transfer-encoding")) (forwarded_lines request) ≡ []

-- an answer's lines of Content-Length are the one that is told, or none
abbrev pub AnswersItsLength : AnswerValue → Type 0
AnswersItsLength answer =
    filter (is_named (codes "content-length")) (answer_lines answer) ≡ told_lines answer

-- no line of an answer is Transfer-Encoding
abbrev pub AnswersNoCoding : AnswerValue → Type 0
AnswersNoCoding answer =
    filter (is_named (codes "transfer-encoding")) (answer_lines answer) ≡ []

-- an answer is its front, the lines that are told, and its body
abbrev pub BeginsWithItsFront : AnswerValue → Type 0
BeginsWithItsFront answer =
    answer_text answer
    ≡ concat (front_text answer.status answer.headers
    ∷ lines_text (told_lines answer ++ close_lines answer.persistence)
    ∷ codes "\r\n" ∷ unwrap_or (written_body answer) [] ∷ [])
