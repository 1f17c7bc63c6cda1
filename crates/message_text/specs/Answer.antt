-- A response as it is written to the client.
use Rattle.std.specs.Prelude.{ℕ, Bool, ◌||◌, ◌==◌, List, [], ◌∷◌, ◌++◌, codes, decimal, bytes_eq, Option, None, Some, unwrap_or, if◌then◌else◌}
use Rattle.std.specs.List.{concat}
use Rattle.http.specs.StatusCode.{reason_phrase}
use Rattle.message_parts.specs.Header.{Header}
use Rattle.message_fields.specs.Passed.{response_lines}
use Rattle.message_fields.specs.Lengths.{length_digits}
use Rattle.message_text.specs.Line.{line_of, lines_text, close_lines}
use Rattle.message_text.specs.declared.answer.Answer.{Answer}
use Rattle.message_text.specs.declared.persistence.Persistence.{Persistence}
use Rattle.message_text.specs.Forwarded.{lent, length_lines}

-- what an answer is written from: the method is that of the request
pub record AnswerValue : Type 0 where
  pub method : List ℕ
  pub status : ℕ
  pub headers : List Header
  pub body : Option (List ℕ)
  pub persistence : Persistence

-- what is seen of an answer that is to be written
abbrev pub seen : Answer → AnswerValue
seen answer = record {
  method = answer.method.now;
  status = answer.status;
  headers = answer.headers.now;
  body = lent answer.body;
  persistence = answer.persistence;
}

-- the phrase of a status, which may be empty
unfoldable pub phrase_of : ℕ → List ℕ
phrase_of status = unwrap_or (reason_phrase status) []

-- to this method, or with this status, no body is written
abbrev pub is_bodiless : List ℕ → ℕ → Bool
is_bodiless method status =
    bytes_eq method (codes "HEAD") || ((status == 204) || (status == 304))

-- the body that is written
abbrev pub written_body : AnswerValue → Option (List ℕ)
written_body answer = if is_bodiless answer.method answer.status then None else answer.body

-- the length that came with the response, where its lines give one
abbrev pub received_lines : Option (List ℕ) → List Header
received_lines None = []
received_lines (Some digits) = line_of (codes "Content-Length") digits ∷ []

-- the length that is told: that of the body, or the one that came where no body is written; a 204
-- tells none
abbrev pub told_lines : AnswerValue → List Header
told_lines answer =
    if answer.status == 204 then []
    else (if is_bodiless answer.method answer.status
    then received_lines (length_digits answer.headers) else length_lines answer.body)

-- the lines of an answer
unfoldable pub answer_lines : AnswerValue → List Header
answer_lines answer =
    response_lines answer.headers ++ told_lines answer ++ close_lines answer.persistence

-- the first line of an answer
unfoldable pub status_text : ℕ → List ℕ
status_text status =
    concat (codes "HTTP/1.1 " ∷ decimal status ∷ codes " " ∷ phrase_of status ∷ codes "\r\n" ∷ [])

-- THE FRONT of an answer: its first line, and the lines of the response that are passed on, without
-- those that tell how the body ends and whether the connection does
unfoldable pub front_text : ℕ → List Header → List ℕ
front_text status headers = status_text status ++ lines_text (response_lines headers)

-- the answer as it is written
unfoldable pub answer_text : AnswerValue → List ℕ
answer_text answer =
    concat (status_text answer.status ∷ lines_text (answer_lines answer)
    ∷ codes "\r\n" ∷ unwrap_or (written_body answer) [] ∷ [])

-- the gateway's own answer of a status
unfoldable pub local_text : Persistence → ℕ → List ℕ
local_text persistence status =
    concat (status_text status
    ∷ lines_text (line_of (codes "Content-Length") (codes "0") ∷ close_lines persistence)
    ∷ codes "\r\n" ∷ [])

-- the same with a mark, a word that needs no escape, which tells why the gateway answers itself
unfoldable pub marked_text : Persistence → ℕ → List ℕ → List ℕ
marked_text persistence status mark =
    concat (status_text status
    ∷ lines_text (line_of (codes "X-Admission") mark
    ∷ line_of (codes "Content-Length") (codes "0") ∷ close_lines persistence)
    ∷ codes "\r\n" ∷ [])
