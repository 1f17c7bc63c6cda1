-- Texts that are written in pieces.
use Rattle.std.proofs.Common.{◌≡◌, ℕ, List, [], ◌∷◌, ◌++◌, map, refl, ap, sym, subst, ◌∙◌, Option, None, Some, Result, Ok, Err, OnOk, true, false, drop, append_assoc}
use Rattle.std.specs.Prelude.{codes, decimal, unwrap_or, if◌then◌else◌}
use Rattle.std.specs.List.{before_first}
use Rattle.std.specs.Io.KnownBytes.{Appends}
use Rattle.std.proofs.KnownBytes.{Appends-trans}
use Rattle.std.proofs.lemmas.List.{append-nil}
use Rattle.std.proofs.lemmas.Grind.{flat_map-append}
use Rattle.message_parts.specs.Header.{Header}
use Rattle.message_fields.specs.Passed.{request_lines, response_lines}
use Rattle.message_fields.specs.Target.{authority_of, ends_authority, forwarded_target, is_absolute}
use Rattle.message_text.specs.Line.{line_of, line_text, lines_text, close_lines}
use Rattle.message_text.specs.Forwarded.{ForwardedValue, hosted, host_lines, length_lines, via_line, first_text, forwarded_lines, forwarded_text}
use Rattle.message_text.specs.declared.persistence.Persistence.{Persistence}
use Rattle.message_text.specs.Answer.{AnswerValue, answer_lines, answer_text, front_text, local_text, marked_text, phrase_of, status_text, told_lines, written_body}
use Rattle.message_text.specs.Laws.{BeginsWithItsFront}

-- a front was written, and then the rest
pub wrote_then : {T E : Type 0} (r : Result T E) (a b c : Option (List ℕ)) (x y text : List ℕ)
    → text ≡ x ++ y → Appends a b x → OnOk r (Appends b c y) → OnOk r (Appends a c text)
wrote_then (Ok v) a b c x y text e p q =
    subst (Appends a c) (sym e) (Appends-trans a b c x y p q)
wrote_then (Err f) a b c x y text e p q = tt

-- lines of two lists
lines_text-append : (one other : List Header)
    → lines_text (one ++ other) ≡ lines_text one ++ lines_text other
unfolding lines_text
lines_text-append one other = flat_map-append line_text one other

-- a line, in four pieces
pub line_pieces : (line : Header)
    → line_text line ≡ ((line.name ++ codes ": ") ++ line.value) ++ codes "\r\n"
unfolding line_text
line_pieces line = simp (append_assoc, append-nil)

-- the first line of an answer, in five pieces
pub status_pieces : (status : ℕ)
    → status_text status
    ≡ (((codes "HTTP/1.1 " ++ decimal status) ++ codes " ") ++ phrase_of status)
    ++ codes "\r\n"
unfolding status_text
status_pieces status = simp (append_assoc, append-nil)

-- the lines of an answer and the empty line, in two pieces
answer_pieces : (answer : AnswerValue)
    → lines_text (answer_lines answer) ++ codes "\r\n"
    ≡ lines_text (response_lines answer.headers)
    ++ (lines_text (told_lines answer)
    ++ (lines_text (close_lines answer.persistence) ++ codes "\r\n"))
unfolding answer_lines
answer_pieces answer =
    let one = response_lines answer.headers in
    let two = told_lines answer in
    let last = close_lines answer.persistence in
    let split : lines_text (one ++ two ++ last)
    ≡ lines_text one ++ lines_text two ++ lines_text last
    = simp lines_text-append in
    ap (λ (t : List ℕ). t ++ codes "\r\n") split
    ∙ append_assoc (lines_text one ++ lines_text two) (lines_text last) (codes "\r\n")
    ∙ append_assoc (lines_text one) (lines_text two) (lines_text last ++ codes "\r\n")

-- the front of an answer, in two pieces
pub front_pieces : (status : ℕ) (headers : List Header)
    → front_text status headers ≡ status_text status ++ lines_text (response_lines headers)
unfolding front_text
front_pieces status headers = refl

-- an answer, by its lines
answer_by_lines : (answer : AnswerValue)
    → answer_text answer
    ≡ (status_text answer.status ++ (lines_text (answer_lines answer) ++ codes "\r\n"))
    ++ unwrap_or (written_body answer) []
unfolding answer_text
answer_by_lines answer = simp (append_assoc, append-nil)

-- an answer, in three pieces
pub answer_whole : (answer : AnswerValue)
    → answer_text answer
    ≡ (front_text answer.status answer.headers ++ (lines_text (told_lines answer)
    ++ (lines_text (close_lines answer.persistence) ++ codes "\r\n")))
    ++ unwrap_or (written_body answer) []
unfolding front_text
answer_whole answer =
    let first = status_text answer.status in
    let kept = lines_text (response_lines answer.headers) in
    let told : List ℕ = lines_text (told_lines answer)
    ++ (lines_text (close_lines answer.persistence) ++ codes "\r\n") in
    let body = unwrap_or (written_body answer) [] in
    answer_by_lines answer
    ∙ ap (λ (t : List ℕ). (first ++ t) ++ body) (answer_pieces answer)
    ∙ ap (λ (t : List ℕ). t ++ body) (sym (append_assoc first kept told))

-- an answer begins with its front
pub begins_with_front : (answer : AnswerValue) → BeginsWithItsFront answer
begins_with_front answer =
    let split = lines_text-append (told_lines answer) (close_lines answer.persistence) in
    answer_whole answer ∙ (rw split (simp (append_assoc, append-nil)))

-- the gateway's own answer, in two pieces
pub local_whole : (persistence : Persistence) (status : ℕ)
    → local_text persistence status
    ≡ status_text status
    ++ (lines_text (line_of (codes "Content-Length") (codes "0") ∷ close_lines persistence)
    ++ codes "\r\n")
unfolding local_text
local_whole persistence status = simp (append_assoc, append-nil)

-- the same with a mark, in three pieces
pub marked_whole : (persistence : Persistence) (status : ℕ) (mark : List ℕ)
    → marked_text persistence status mark
    ≡ (status_text status ++ line_text (line_of (codes "X-Admission") mark))
    ++ (lines_text (line_of (codes "Content-Length") (codes "0") ∷ close_lines persistence)
    ++ codes "\r\n")
unfolding marked_text lines_text
marked_whole persistence status mark = simp (append_assoc, append-nil)

-- the lines of a forwarded request and the empty line, in four pieces
pub forwarded_pieces : (request : ForwardedValue)
    → lines_text (forwarded_lines request) ++ codes "\r\n"
    ≡ ((lines_text (map (hosted (authority_of request.target)) (request_lines request.headers))
    ++ lines_text (host_lines request)) ++ lines_text (length_lines request.body))
    ++ (line_text (via_line request.is_old) ++ lines_text (close_lines request.persistence)
    ++ codes "\r\n")
unfolding forwarded_lines lines_text
forwarded_pieces request =
    let kept = map (hosted (authority_of request.target)) (request_lines request.headers) in
    let host = host_lines request in
    let size = length_lines request.body in
    let via = via_line request.is_old in
    let last = close_lines request.persistence in
    let front : List ℕ = lines_text kept ++ lines_text host ++ lines_text size in
    let split : lines_text (kept ++ host ++ size ++ (via ∷ last))
    ≡ front ++ lines_text (via ∷ last) = simp lines_text-append in
    ap (λ (t : List ℕ). t ++ codes "\r\n") split
    ∙ append_assoc front (lines_text (via ∷ last)) (codes "\r\n")

-- a target without an authority isn't absolute
not_absolute : (target : List ℕ) → authority_of target ≡ None → is_absolute target ≡ false
not_absolute target none =
    elim (is_absolute target) as
    (λ b. (if b then Some (before_first ends_authority (drop 7 target)) else None) ≡ None
    → b ≡ false) [ true ↦ λ e. absurd (cc) | false ↦ λ e. refl ] none

-- and is forwarded as it came
pub plain_target : (method target : List ℕ) → authority_of target ≡ None
    → forwarded_target method target ≡ target
plain_target method target none =
    let plain = not_absolute target none in rw plain refl

-- the first line of a forwarded request, in four pieces
pub first_pieces : (request : ForwardedValue)
    → first_text request
    ≡ ((request.method ++ codes " ") ++ forwarded_target request.method request.target)
    ++ codes " HTTP/1.1\r\n"
first_pieces request = simp (append_assoc)

-- a forwarded request, in three pieces
pub forwarded_whole : (request : ForwardedValue)
    → forwarded_text request
    ≡ (first_text request ++ (lines_text (forwarded_lines request) ++ codes "\r\n"))
    ++ unwrap_or request.body []
unfolding forwarded_text
forwarded_whole request = simp (append_assoc, append-nil)
