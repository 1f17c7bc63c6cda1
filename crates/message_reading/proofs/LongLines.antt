-- The lines of a head, each of three bytes or more with an LF at its end alone.
use Rattle.std.proofs.Common.{rules, arith, ◌≡◌, ◌≢◌, ◌≤◌, ◌<◌, ◌+◌, ◌∙◌, ◌++◌, ◌==◌, All, sym, ap, refl, ℕ, Bool, false, cond, codes, List, [], ◌∷◌, length, length-append}
use Rattle.std.specs.Prelude.{count_by, Option, None, Some}
use Rattle.std.specs.Char.{is_ascii_digit}
use Rattle.std.specs.Io.{StopsAt}
use Rattle.std.proofs.Transfers.{StopsAt-append}
use Rattle.std.proofs.lemmas.Bool.{false≢true, ne_eqb}
use Rattle.std.proofs.lemmas.List.Elements.{All-append, All-cons, All-head, All-nil, All-tail}
use Rattle.std.proofs.lemmas.List.Sums.{sum_by-append}
use Rattle.httparse.specs.Grammar.{AllPass, Field, IsField, LineEnd, RequestHead, IsRequestHead, ResponseHead, IsResponseHead, crlf, is_token_byte, is_uri_byte, is_value_byte, lf, print_end, print_field, print_reason, print_version, reason_phrase}
use Rattle.message_reading.specs.ChunkLines.{last_three}

-- how many LFs there are
abbrev pub feeds : List ℕ → ℕ
feeds = count_by (λ b. b == 10)

pub feeds-append : (a b : List ℕ) → feeds (a ++ b) ≡ feeds a + feeds b
feeds-append a b = sum_by-append (λ b. cond (b == 10) 1 0) a b

pub feeds-end : (e : LineEnd) → feeds (print_end e) ≡ 1
feeds-end crlf = refl
feeds-end lf = refl

-- a line of a head but for the empty ones
pub record IsLong (line : List ℕ) : Type 0 where
  pub long : 3 ≤ length line
  pub stops : StopsAt line 10
  pub one : feeds line ≡ 1
  pub last : (three : ℕ × ℕ × ℕ) → (last_three three line).2 ≡ 10

-- no LF
abbrev Loose : List ℕ → Type 0
Loose = All (λ b. b ≢ 10)

loose_by : (test : ℕ → Bool) (xs : List ℕ) → test 10 ≡ false → AllPass test xs → Loose xs
loose_by test xs none pass k d within is =
    false≢true (sym none ∙ sym (ap test is) ∙ pass k d within)

token_loose : (xs : List ℕ) → AllPass is_token_byte xs → Loose xs
unfolding is_token_byte
token_loose xs pass = loose_by is_token_byte xs refl pass

no_feeds : (xs : List ℕ) → Loose xs → feeds xs ≡ 0
no_feeds [] loose = refl
no_feeds (x ∷ xs) loose =
    let other : (x == 10) ≡ false = ne_eqb x 10 (All-head (λ b. b ≢ 10) x xs loose) in
    let one : feeds (x ∷ []) ≡ 0 = rw other refl in
    let rest = no_feeds xs (All-tail (λ b. b ≢ 10) x xs loose) in
    feeds-append (x ∷ []) xs ∙ omega (arith, one, rest)

pub end_stops : (e : LineEnd) → StopsAt (print_end e) 10
end_stops crlf = All-cons (λ b. b ≢ 10) 13 [] (search rules) (All-nil (λ b. b ≢ 10))
end_stops lf = All-nil (λ b. b ≢ 10)

pub end_some : (e : LineEnd) → 0 < length (print_end e)
end_some crlf = search rules
end_some lf = search rules

pub last_feed : (three : ℕ × ℕ × ℕ) (body : List ℕ) (e : LineEnd)
    → (last_three three (body ++ print_end e)).2 ≡ 10
last_feed three [] crlf = refl
last_feed three [] lf = refl
last_feed three (b ∷ body) e = last_feed (three.1, three.2, b) body e

-- some bytes without an LF, and an end of a line
is_long : (body : List ℕ) (e : LineEnd) → 2 ≤ length body → Loose body
    → IsLong (body ++ print_end e)
is_long body e long loose =
    let whole = length-append body (print_end e) in
    let some = end_some e in
    let end = feeds-end e in
    let none = no_feeds body loose in
    record {
      long = omega arith;
      stops = StopsAt-append body (print_end e) 10 loose (end_stops e);
      one = feeds-append body (print_end e) ∙ omega arith;
      last = λ three. last_feed three body e;
    }

loose_by_gap : (xs ys : List ℕ) (gap : ℕ) → gap ≢ 10 → Loose xs → Loose ys
    → Loose (xs ++ gap ∷ ys)
loose_by_gap xs ys gap other one two =
    All-append (λ b. b ≢ 10) xs (gap ∷ ys) one (All-cons (λ b. b ≢ 10) gap ys other two)

long_by_gap : (xs ys : List ℕ) (gap : ℕ) → 0 < length xs → 2 ≤ length (xs ++ gap ∷ ys)
long_by_gap xs ys gap some = let whole = length-append xs (gap ∷ ys) in omega arith

pub field_long : (f : Field) → IsField f → IsLong (print_field f)
field_long f is =
    is_long (f.name ++ 58 ∷ f.raw) f.end (long_by_gap f.name f.raw 58 is.name.0)
    (loose_by_gap f.name f.raw 58 (search rules) (token_loose f.name is.name.1)
    (loose_by is_value_byte f.raw refl is.raw))

version_loose : (minor : ℕ) → minor ≤ 1 → Loose (print_version minor)
version_loose minor few =
    loose_by_gap (codes "HTTP/1.") [] (48 + minor) (omega arith) (search rules)
    (All-nil (λ b. b ≢ 10))

-- the first line of a request
abbrev pub request_line : RequestHead → List ℕ
request_line h =
    h.method ++ 32 ∷ h.target ++ 32 ∷ print_version h.minor ++ print_end h.line_end

pub request_long : (h : RequestHead) → IsRequestHead h → IsLong (request_line h)
request_long h is =
    let version = print_version h.minor in
    let front = loose_by_gap h.method h.target 32 (search rules) (token_loose h.method is.method.1)
    (loose_by is_uri_byte h.target refl is.target.1) in
    is_long (h.method ++ 32 ∷ h.target ++ 32 ∷ version) h.line_end
    (long_by_gap (h.method ++ 32 ∷ h.target) version 32
    (let long = long_by_gap h.method h.target 32 is.method.0 in omega arith))
    (loose_by_gap (h.method ++ 32 ∷ h.target) version 32 (search rules) front
    (version_loose h.minor is.minor))

-- the first line of a response
abbrev pub response_line : ResponseHead → List ℕ
response_line h =
    print_version h.minor ++ 32 ∷ h.digits ++ print_reason h.reason ++ print_end h.line_end

reason_loose : (reason : Option (List ℕ)) → AllPass is_value_byte (reason_phrase reason)
    → Loose (print_reason reason)
reason_loose None pass = All-nil (λ b. b ≢ 10)
reason_loose (Some phrase) pass =
    All-cons (λ b. b ≢ 10) 32 phrase (search rules) (loose_by is_value_byte phrase refl pass)

pub response_long : (h : ResponseHead) → IsResponseHead h → IsLong (response_line h)
response_long h is =
    let version = print_version h.minor in
    let reason = print_reason h.reason in
    let front = loose_by_gap version h.digits 32 (search rules) (version_loose h.minor is.minor)
    (loose_by is_ascii_digit h.digits refl is.digits.1) in
    let whole = length-append (version ++ 32 ∷ h.digits) reason in
    let long = length-append version (32 ∷ h.digits) in
    is_long (version ++ 32 ∷ h.digits ++ reason) h.line_end (omega (arith, is.digits.0))
    (All-append (λ b. b ≢ 10) (version ++ 32 ∷ h.digits) reason front
    (reason_loose h.reason is.reason))
