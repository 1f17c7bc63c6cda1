-- Messages are written in one way.
use Rattle.std.proofs.Common.{◌≡◌, ◌≤◌, ℕ, ◌+◌, Bool, true, false, List, [], ◌∷◌, ◌++◌, length, length-append, map, filter, refl, ap, sym, ◌∙◌, cond, eqb, arith}
use Rattle.std.specs.Prelude.{codes, Option, Some, None, unwrap_or, suc}
use Rattle.std.proofs.lemmas.List.{append-nil}
use Rattle.message_fields.specs.Lengths.{length_digits}
use Rattle.std.proofs.lemmas.List.Elements.{filter-append}
use Rattle.std.proofs.lemmas.List.Sums.{length-filter}
use Rattle.std.proofs.lemmas.Bool.Decides.{nat_tests}
use Rattle.message_parts.specs.Header.{Header}
use Rattle.message_parts.specs.Names.{same_name}
use Rattle.message_fields.specs.Lines.{is_named, count_named}
use Rattle.message_fields.specs.Passed.{is_passed, is_passed_in_request, request_lines, response_lines}
use Rattle.message_fields.specs.Target.{authority_of}
use Rattle.message_text.specs.Line.{close_lines, line_of}
use Rattle.message_text.specs.declared.persistence.Persistence.{Persistence}
use Rattle.message_text.specs.declared.persistence.Persistence.TheVariants.{Close, Keep}
use Rattle.message_text.specs.Forwarded.{ForwardedValue, forwarded_lines, host_lines, length_lines, via_line, hosted}
use Rattle.message_text.specs.Answer.{AnswerValue, answer_lines, told_lines, is_bodiless, received_lines}
use Rattle.message_text.specs.Laws.{TellsOneHost, TellsItsLength, TellsNoCoding, AnswersItsLength, AnswersNoCoding}
use Rattle.message_text.proofs.Apart.{names_apart, host_expect, passed_apart, first_holds, hosted_name, none_kept}

-- the lines of a name among those of four lists
filter_four : (p : Header → Bool) (a b c d : List Header)
    → filter p (a ++ b ++ c ++ d) ≡ filter p a ++ filter p b ++ filter p c ++ filter p d
filter_four p a b c d = simp (filter-append)

-- of the kept lines none tells a coding or a length
kept_coding : (request : ForwardedValue)
    → filter (is_named (codes "transfer-encoding"))
    (map (hosted (authority_of request.target)) (request_lines request.headers)) ≡ []
kept_coding request =
    none_kept (codes "transfer-encoding") (is_passed_in_request request.headers)
    (hosted (authority_of request.target))
    (λ line. hosted_name (authority_of request.target) line (codes "transfer-encoding"))
    (λ line kept. (passed_apart request.headers line (first_holds _ _ kept)).0) request.headers

kept_length : (request : ForwardedValue)
    → filter (is_named (codes "content-length"))
    (map (hosted (authority_of request.target)) (request_lines request.headers)) ≡ []
kept_length request =
    none_kept (codes "content-length") (is_passed_in_request request.headers)
    (hosted (authority_of request.target))
    (λ line. hosted_name (authority_of request.target) line (codes "content-length"))
    (λ line kept. (passed_apart request.headers line (first_holds _ _ kept)).1) request.headers

-- a Host line that is added tells neither
host_apart : (request : ForwardedValue)
    → (filter (is_named (codes "transfer-encoding")) (host_lines request) ≡ [])
    × (filter (is_named (codes "content-length")) (host_lines request) ≡ [])
unfolding same_name
host_apart request =
    let line : Header =
    line_of (codes "Host") (unwrap_or (authority_of request.target) request.backend) in
    elim (eqb (count_named (codes "host") request.headers) 0) as
    (λ b. (filter (is_named (codes "transfer-encoding")) (cond b (line ∷ []) []) ≡ [])
    × (filter (is_named (codes "content-length")) (cond b (line ∷ []) []) ≡ [])) [
      | true ↦ (refl, refl)
      | false ↦ (refl, refl)
    ]

-- the line of a length tells a length, and no coding
length_tells : (body : Option (List ℕ))
    → (filter (is_named (codes "transfer-encoding")) (length_lines body) ≡ [])
    × (filter (is_named (codes "content-length")) (length_lines body) ≡ length_lines body)
unfolding same_name
length_tells None = (refl, refl)
length_tells (Some body) = (refl, refl)

-- the last lines tell neither
last_tell : (is_old : Bool) (it : Persistence)
    → (filter (is_named (codes "transfer-encoding")) (via_line is_old ∷ close_lines it) ≡ [])
    × (filter (is_named (codes "content-length")) (via_line is_old ∷ close_lines it) ≡ [])
    × (filter (is_named (codes "host")) (via_line is_old ∷ close_lines it) ≡ [])
unfolding same_name via_line
last_tell is_old Close = (refl, refl, refl)
last_tell is_old Keep = (refl, refl, refl)

pub tells_no_coding : (request : ForwardedValue) → TellsNoCoding request
unfolding forwarded_lines
tells_no_coding request =
    filter_four (is_named (codes "transfer-encoding"))
    (map (hosted (authority_of request.target)) (request_lines request.headers))
    (host_lines request) (length_lines request.body)
    (via_line request.is_old ∷ close_lines request.persistence)
    ∙ rw (
      kept_coding request,
      (host_apart request).0,
      (length_tells request.body).0,
      (last_tell request.is_old request.persistence).0,
    ) refl

pub tells_its_length : (request : ForwardedValue) → TellsItsLength request
unfolding forwarded_lines
tells_its_length request =
    filter_four (is_named (codes "content-length"))
    (map (hosted (authority_of request.target)) (request_lines request.headers))
    (host_lines request) (length_lines request.body)
    (via_line request.is_old ∷ close_lines request.persistence)
    ∙ rw (
      kept_length request,
      (host_apart request).1,
      (length_tells request.body).1,
      (last_tell request.is_old request.persistence).1,
    ) (append-nil (length_lines request.body))

-- the line of a length that came tells a length, and no coding
received_tells : (digits : Option (List ℕ))
    → (filter (is_named (codes "transfer-encoding")) (received_lines digits) ≡ [])
    × (filter (is_named (codes "content-length")) (received_lines digits) ≡ received_lines digits)
unfolding same_name
received_tells None = (refl, refl)
received_tells (Some digits) = (refl, refl)

-- lines that tell a length each, and no coding
abbrev TellLengths : List Header → Type 0
TellLengths lines = (filter (is_named (codes "transfer-encoding")) lines ≡ [])
    × (filter (is_named (codes "content-length")) lines ≡ lines)

-- a line's length told to a client
told_tell : (answer : AnswerValue) → TellLengths (told_lines answer)
unfolding same_name
told_tell answer =
    let received : List Header = received_lines (length_digits answer.headers) in
    let own : List Header = length_lines answer.body in
    elim (eqb answer.status 204) as
    (λ b. TellLengths (cond b [] (cond (is_bodiless answer.method answer.status) received own))) [
      | true ↦ (refl, refl)
      | false ↦
          elim (is_bodiless answer.method answer.status) as
          (λ b. TellLengths (cond b received own)) [
            | true ↦ received_tells (length_digits answer.headers)
            | false ↦ length_tells answer.body
          ]
    ]

-- the lines of a name among those of three lists
filter_three : (p : Header → Bool) (a b c : List Header)
    → filter p (a ++ b ++ c) ≡ filter p a ++ filter p b ++ filter p c
filter_three p a b c = simp (filter-append)

-- a map that changes nothing
map_same : (xs : List Header) → map (λ x. x) xs ≡ xs
map_same [] = refl
map_same (x ∷ xs) = ap (λ (ys : List Header). x ∷ ys) (map_same xs)

-- of the kept lines of a response none tells a coding or a length
passed_none : (name : List ℕ) (lines : List Header)
    → ((line : Header) → is_passed lines line ≡ true → is_named name line ≡ false)
    → filter (is_named name) (response_lines lines) ≡ []
passed_none name lines apart =
    ap (filter (is_named name)) (sym (map_same (response_lines lines)))
    ∙ none_kept name (is_passed lines) (λ line. line) (λ line. refl) apart lines

-- the last line tells neither
close_tells : (it : Persistence)
    → (filter (is_named (codes "transfer-encoding")) (close_lines it) ≡ [])
    × (filter (is_named (codes "content-length")) (close_lines it) ≡ [])
unfolding same_name
close_tells Close = (refl, refl)
close_tells Keep = (refl, refl)

pub answers_no_coding : (answer : AnswerValue) → AnswersNoCoding answer
unfolding answer_lines
answers_no_coding answer =
    filter_three (is_named (codes "transfer-encoding")) (response_lines answer.headers)
    (told_lines answer) (close_lines answer.persistence)
    ∙ rw (
      passed_none (codes "transfer-encoding") answer.headers
          (λ line passed. (passed_apart answer.headers line passed).0),
      (told_tell answer).0,
      (close_tells answer.persistence).0,
    ) refl

pub answers_its_length : (answer : AnswerValue) → AnswersItsLength answer
unfolding answer_lines
answers_its_length answer =
    filter_three (is_named (codes "content-length")) (response_lines answer.headers)
    (told_lines answer) (close_lines answer.persistence)
    ∙ rw (
      passed_none (codes "content-length") answer.headers
          (λ line passed. (passed_apart answer.headers line passed).1),
      (told_tell answer).1,
      (close_tells answer.persistence).1,
    ) (append-nil (told_lines answer))

-- the Host lines that are kept are those that came
hosts_kept : (all : List Header) (authority : Option (List ℕ)) (lines : List Header)
    → length (filter (is_named (codes "host"))
    (map (hosted authority) (filter (is_passed_in_request all) lines)))
    ≡ length (filter (is_named (codes "host")) lines)
hosts_kept all authority [] = refl
hosts_kept all authority (line ∷ lines) =
    let host : Header → Bool = is_named (codes "host") in
    let f : Header → Header = hosted authority in
    let kept : List Header = filter (is_passed_in_request all) lines in
    let hosts : List Header = filter host (map f kept) in
    let rest = hosts_kept all authority lines in
    let named : host (f line) ≡ host line = hosted_name authority line (codes "host") in
    elim (host line) as
    (λ b. host line ≡ b
    → length (filter host (map f (cond (is_passed_in_request all line) (line ∷ kept) kept)))
    ≡ length (cond b (line ∷ filter host lines) (filter host lines))) [
      | true ↦ λ e.
          let expects : is_named (codes "expect") line ≡ false =
          names_apart line.name (codes "host") (codes "expect") e host_expect in
          let passed : is_passed_in_request all line ≡ true =
          rw (e, expects) refl in
          ap (λ b. length (filter host (map f (cond b (line ∷ kept) kept)))) passed
          ∙ ap (λ b. length (cond b (f line ∷ hosts) hosts)) (named ∙ e) ∙ ap suc rest
      | false ↦ λ e.
          elim (is_passed_in_request all line) as
          (λ b. length (filter host (map f (cond b (line ∷ kept) kept)))
          ≡ length (filter host lines)) [
            | true ↦
                ap (λ b. length (cond b (f line ∷ hosts) hosts)) (named ∙ e) ∙ rest
            | false ↦ rest
          ]
    ] refl

-- a Host line is added where none came
host_added : (request : ForwardedValue)
    → length (filter (is_named (codes "host")) (host_lines request))
    ≡ cond (eqb (count_named (codes "host") request.headers) 0) 1 0
unfolding same_name
host_added request =
    let line : Header =
    line_of (codes "Host") (unwrap_or (authority_of request.target) request.backend) in
    elim (eqb (count_named (codes "host") request.headers) 0) as
    (λ b. length (filter (is_named (codes "host")) (cond b (line ∷ []) [])) ≡ cond b 1 0) [
      | true ↦ refl
      | false ↦ refl
    ]

-- one comes where none or one was
one_of : (n : ℕ) → n ≤ 1 → n + cond (eqb n 0) 1 0 ≡ 1
one_of n few = grind (arith, nat_tests)

-- a length line is not Host
length_not_host : (body : Option (List ℕ))
    → filter (is_named (codes "host")) (length_lines body) ≡ []
unfolding same_name
length_not_host None = refl
length_not_host (Some body) = refl

pub tells_one_host : (request : ForwardedValue) → TellsOneHost request
unfolding forwarded_lines
tells_one_host request few =
    let host : Header → Bool = is_named (codes "host") in
    let kept : List Header =
    map (hosted (authority_of request.target)) (request_lines request.headers) in
    let last : List Header = via_line request.is_old ∷ close_lines request.persistence in
    let parts = filter_four host kept (host_lines request) (length_lines request.body) last in
    let none : filter host kept ++ filter host (host_lines request)
    ++ filter host (length_lines request.body) ++ filter host last
    ≡ filter host kept ++ filter host (host_lines request) =
    rw (length_not_host request.body, (last_tell request.is_old request.persistence).2)
    (append-nil _ ∙ append-nil _) in
    let came = hosts_kept request.headers (authority_of request.target) request.headers
    ∙ length-filter host request.headers in
    sym (length-filter host _) ∙ ap length (parts ∙ none)
    ∙ length-append (filter host kept) (filter host (host_lines request))
    ∙ rw (came, host_added request) (one_of (count_named (codes "host") request.headers) few)
