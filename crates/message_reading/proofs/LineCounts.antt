-- The lines of a head, and how many they are: each ends in an LF.
use Rattle.std.proofs.Common.{rules, arith, ◌≡◌, ◌<◌, ◌+◌, ◌∙◌, ◌++◌, ◌==◌, ◌&&◌, ◌||◌, All, subst, ap, refl, ℕ, Bool, true, false, List, [], ◌∷◌, length, append_assoc, IsTrue}
use Rattle.std.specs.List.{flat_map}
use Rattle.std.proofs.lemmas.List.{append-nil}
use Rattle.std.proofs.lemmas.List.Elements.{All-head, All-tail}
use Rattle.httparse.specs.Grammar.{AllPass, Field, IsField, IsRequestHead, IsResponseHead, LineEnd, RequestHead, ResponseHead, crlf, is_token_byte, lf, print_blank, print_end, print_field, print_request, print_response, print_section, print_reason, print_version}
use Rattle.httparse.proofs.GrammarLemmas.{cons-append}
use Rattle.message_reading.specs.HeadBytes.{after_blank, is_blank, line_ends, stays_blank}
use Rattle.message_reading.specs.WholeHeads.{IsWholeRequest, IsWholeResponse}
use Rattle.message_reading.proofs.LongLines.{IsLong, feeds, feeds-append, feeds-end, field_long, request_line, request_long, response_line, response_long}

-- the line is none of the empty ones in front
abbrev Shows : List ℕ → Type 0
Shows [] = ⊥
Shows (b ∷ bytes) = stays_blank 10 b ≡ false

-- a first line, and lines behind it
pub record IsHead (line : List ℕ) (fields : List Field) : Type 0 where
  pub shows : Shows line
  pub first : IsLong line
  pub fields_are : All IsField fields

-- their bytes
abbrev pub print_head : List LineEnd → List ℕ → List Field → LineEnd → List ℕ
print_head blank line fields last = print_blank blank ++ (line ++ print_section fields last)

token_visible : (b : ℕ) → IsTrue (is_token_byte b) → stays_blank 10 b ≡ false
unfolding is_token_byte
token_visible b is = go (b == 10) refl (b == 13) refl
  where
    go : (t : Bool) → (b == 10) ≡ t → (u : Bool) → (b == 13) ≡ u → (t || (u && true)) ≡ false
    go true e u f =
        let same : b ≡ 10 = search rules in
        let no : IsTrue (is_token_byte 10) = subst (λ n. IsTrue (is_token_byte n)) same is in
        search rules
    go false e true f =
        let same : b ≡ 13 = search rules in
        let no : IsTrue (is_token_byte 13) = subst (λ n. IsTrue (is_token_byte n)) same is in
        search rules
    go false e false f = refl

method_shows : (method rest : List ℕ) → 0 < length method → AllPass is_token_byte method
    → Shows (method ++ rest)
method_shows [] rest some pass = absurd (omega arith)
method_shows (b ∷ method) rest some pass =
    token_visible b (All-head (λ b. IsTrue (is_token_byte b)) b method pass)

pub request_is : (h : RequestHead) → IsRequestHead h → IsHead (request_line h) h.fields
request_is h is =
    let version = print_version h.minor in
    let end = print_end h.line_end in
    let rest = 32 ∷ h.target ++ 32 ∷ version ++ end in
    record {
      shows = subst Shows (regroup h.method h.target version end)
          (method_shows h.method rest is.method.0 is.method.1);
      first = request_long h is;
      fields_are = is.fields;
    }
  where
    regroup : (b c d e : List ℕ)
        → b ++ (32 ∷ c ++ 32 ∷ d ++ e) ≡ b ++ 32 ∷ c ++ 32 ∷ d ++ e
    regroup b c d e = simp (append_assoc, cons-append)

pub response_is : (h : ResponseHead) → IsResponseHead h → IsHead (response_line h) h.fields
response_is h is =
    record { shows = refl; first = response_long h is; fields_are = is.fields }

pub request_text : (text : List ℕ) (h : RequestHead) → IsWholeRequest text h
    → text ≡ print_head h.blank (request_line h) h.fields h.last
unfolding print_request
request_text text h whole =
    whole.1 ∙ append-nil (print_request h)
    ∙ regroup (print_blank h.blank) h.method h.target (print_version h.minor)
    (print_end h.line_end) (print_section h.fields h.last)
  where
    regroup : (a b c d e f : List ℕ)
        → a ++ b ++ 32 ∷ c ++ 32 ∷ d ++ e ++ f ≡ a ++ ((b ++ 32 ∷ c ++ 32 ∷ d ++ e) ++ f)
    regroup a b c d e f = simp (append_assoc, cons-append)

pub response_text : (text : List ℕ) (h : ResponseHead) → IsWholeResponse text h
    → text ≡ print_head h.blank (response_line h) h.fields h.last
unfolding print_response
response_text text h whole =
    whole.1 ∙ append-nil (print_response h)
    ∙ regroup (print_blank h.blank) (print_version h.minor) h.digits (print_reason h.reason)
    (print_end h.line_end) (print_section h.fields h.last)
  where
    regroup : (a b c d e f : List ℕ)
        → a ++ b ++ 32 ∷ c ++ d ++ e ++ f ≡ a ++ ((b ++ 32 ∷ c ++ d ++ e) ++ f)
    regroup a b c d e f = simp (append_assoc, cons-append)

-- the empty lines in front are passed over
blank_passed : (ends : List LineEnd) (line rest : List ℕ) → Shows line
    → after_blank 10 (print_blank ends ++ (line ++ rest)) ≡ line ++ rest
blank_passed [] [] rest shows = absurd shows
blank_passed [] (b ∷ line) rest shows = rw shows refl
blank_passed (crlf ∷ ends) line rest shows = blank_passed ends line rest shows
blank_passed (lf ∷ ends) line rest shows = blank_passed ends line rest shows

-- and there are others
pub not_blank : (ends : List LineEnd) (line rest : List ℕ) → Shows line
    → is_blank 10 (print_blank ends ++ (line ++ rest)) ≡ false
not_blank [] [] rest shows = absurd shows
not_blank [] (b ∷ line) rest shows = rw shows refl
not_blank (crlf ∷ ends) line rest shows = not_blank ends line rest shows
not_blank (lf ∷ ends) line rest shows = not_blank ends line rest shows

fields_feeds : (fields : List Field) → All IsField fields
    → feeds (flat_map print_field fields) ≡ length fields
fields_feeds [] are = refl
fields_feeds (f ∷ fields) are =
    let first = (field_long f (All-head IsField f fields are)).one in
    let others = fields_feeds fields (All-tail IsField f fields are) in
    feeds-append (print_field f) (flat_map print_field fields) ∙ omega arith

-- each line but the empty ones in front ends once
pub head_lines : (blank : List LineEnd) (line : List ℕ) (fields : List Field) (last : LineEnd)
    → IsHead line fields → line_ends (print_head blank line fields last) ≡ 2 + length fields
unfolding line_ends
head_lines blank line fields last is =
    let section = print_section fields last in
    let passed = ap feeds (blank_passed blank line section is.shows) in
    let one = is.first.one in
    let others = fields_feeds fields is.fields_are in
    let end = feeds-end last in
    let parts = feeds-append (flat_map print_field fields) (print_end last) in
    passed ∙ feeds-append line section ∙ omega arith

pub request_lines : (text : List ℕ) (h : RequestHead) → IsWholeRequest text h
    → line_ends text ≡ 2 + length h.fields
request_lines text h whole =
    ap line_ends (request_text text h whole)
    ∙ head_lines h.blank (request_line h) h.fields h.last (request_is h whole.0)

pub response_lines : (text : List ℕ) (h : ResponseHead) → IsWholeResponse text h
    → line_ends text ≡ 2 + length h.fields
response_lines text h whole =
    ap line_ends (response_text text h whole)
    ∙ head_lines h.blank (response_line h) h.fields h.last (response_is h whole.0)
