-- A message that was read says in one way where its body ends.
use Rattle.std.proofs.Common.{rules, arith, inl, inr, ◌≡◌, ◌≤◌, ◌∙◌, sym, ap, subst, refl, ℕ, ltb-false, eqb-true, Bool, true, false, List, [], filter}
use Rattle.std.specs.Prelude.{Option, Some, None, Result, Ok, Err, ◌&&◌, ◌||◌, ◌==◌, nat_lt, codes, bytes_eq, if◌then◌else◌}
use Rattle.std.specs.List.{list_all, slice_get, flat_map}
use Rattle.std.proofs.lemmas.List.{nil_from_length}
use Rattle.std.proofs.lemmas.List.Sums.{length-filter}
use Rattle.message_parts.specs.Header.{Header}
use Rattle.message_fields.specs.Lengths.{digits_first, digits_length, is_digits, most_body}
use Rattle.message_fields.specs.Lines.{count_named, is_chunked_alone, is_named}
use Rattle.message_fields.specs.Parts.{parts, parts_named}
use Rattle.message_fields.specs.Target.{is_target}
use Rattle.message_reading.specs.declared.fault.Fault.{Fault}
use Rattle.message_reading.specs.declared.fault.Fault.TheVariants as fault
use Rattle.message_reading.specs.Reading.{Reading, Then, checked}
use Rattle.message_reading.specs.declared.request_head.RequestHead.{RequestHead}
use Rattle.message_reading.specs.declared.response_head.ResponseHead.{ResponseHead}
use Rattle.message_reading.specs.declared.framing.Framing.{Framing}
use Rattle.message_reading.specs.declared.framing.Framing.TheVariants.{Bodiless, Chunked, ToEnd}
use Rattle.message_reading.specs.Body.{IsWithBody}
use Rattle.message_reading.specs.Framing.{coded, hosts_fit, is_refused, lengths_of, request_framing, response_framing, sized, sized_by}
use Rattle.message_reading.specs.Heads.{IsCheckedHead, framed}
use Rattle.message_text.specs.Answer.{is_bodiless}
use Rattle.message_parts.specs.declared.request.Request.{Request}
use Rattle.wire.specs.Messages.{IsRequest, IsResponse, IsResponseRest, request_of, response_of}
use Rattle.wire.specs.Response.{ResponseValue}
use Rattle.wire.specs.Laws.{IsUnambiguous}

no_value : {A : Type 0} (f : Fault) (a : A) → ◌≡◌ {A = Result A Fault} (Err f) (Ok a) → ⊥
no_value f a is = search rules

same_value : {A : Type 0} (a b : A) → ◌≡◌ {A = Result A Fault} (Ok a) (Ok b) → a ≡ b
same_value a b is = search rules

not_true_false : ◌≡◌ {A = Bool} true false → ⊥
not_true_false is = search rules

none_counted : (n : ℕ) → nat_lt 0 n ≡ false → n ≡ 0
none_counted n is = omega (arith, ltb-false 0 n is)

module _ (most : ℕ) (lines : List Header) where
  abbrev OneText : Type 0
  OneText = (one : List ℕ)
      × (list_all (bytes_eq one) (parts_named (codes "content-length") lines) ≡ true)

  no_parts : count_named (codes "content-length") lines ≡ 0 → OneText
  no_parts none =
      let named : Header → Bool = is_named (codes "content-length") in
      let empty : filter named lines ≡ [] =
      nil_from_length (filter named lines) (length-filter named lines ∙ none) in
      ([], ap (λ xs. list_all (bytes_eq []) (flat_map (λ line. parts line.value) xs)) empty)

  of_test : (first : List ℕ) (t u : Bool) (framing : Framing)
      → list_all (bytes_eq first) (parts_named (codes "content-length") lines) ≡ u
      → sized_by (digits_length most (if t && u then Some first else None)) ≡ Ok framing
      → OneText
  of_test first true true framing all is = (first, all)
  of_test first true false framing all is = absurd (no_value fault.Malformed framing is)
  of_test first false u framing all is = absurd (no_value fault.Malformed framing is)

  of_first : (first : Option (List ℕ)) (framing : Framing)
      → sized_by
      (digits_length most (digits_first (parts_named (codes "content-length") lines) first))
      ≡ Ok framing → OneText
  of_first None framing is = absurd (no_value fault.Malformed framing is)
  of_first (Some first) framing is =
      of_test first (is_digits first)
      (list_all (bytes_eq first) (parts_named (codes "content-length") lines)) framing refl is

  chunked_by : (old alone : Bool) (framing : Framing)
      → ◌≡◌ {A = Result Framing Fault} (if old then Err fault.Malformed
      else (if alone then Ok Chunked else Err fault.Coding)) (Ok framing) → alone ≡ true
  chunked_by true alone framing is = absurd (no_value fault.Malformed framing is)
  chunked_by false true framing is = refl
  chunked_by false false framing is = absurd (no_value fault.Coding framing is)

  module _ (minor : ℕ) (without framing : Framing) where
    by_lines : (codings lengths : Bool)
        → nat_lt 0 (count_named (codes "transfer-encoding") lines) ≡ codings
        → nat_lt 0 (count_named (codes "content-length") lines) ≡ lengths
        → ◌≡◌ {A = Result Framing Fault} (if codings && lengths then Err fault.BothLengths
        else (if codings then coded minor lines
        else (if lengths then sized most lines else Ok without))) (Ok framing)
        → IsUnambiguous lines
    by_lines true true codings lengths is = absurd (no_value fault.BothLengths framing is)
    by_lines true false codings lengths is =
        let none = none_counted _ lengths in record {
          apart = inr none;
          coding = inr (chunked_by (minor == 0) (is_chunked_alone lines) framing is);
          lengths = no_parts none;
        }
    by_lines false true codings lengths is =
        let none = none_counted _ codings in record {
          apart = inl none;
          coding = inl none;
          lengths =
              of_first (slice_get (parts_named (codes "content-length") lines) 0) framing is;
        }
    by_lines false false codings lengths is =
        let none = none_counted _ codings in record {
          apart = inl none;
          coding = inl none;
          lengths = no_parts (none_counted _ lengths);
        }

    lengths_are_one : lengths_of most minor lines without ≡ Ok framing → IsUnambiguous lines
    lengths_are_one is = by_lines _ _ refl refl is

-- the checks of a head that passed
passed : (refused target hosts : Bool) (q : Result Framing Fault) (framing : Framing)
    → (if refused then Err fault.Method
    else (if target then (if hosts then q else Err fault.Malformed) else Err fault.Malformed))
    ≡ Ok framing → (hosts ≡ true) × (q ≡ Ok framing)
passed true target hosts q framing is = absurd (no_value fault.Method framing is)
passed false false hosts q framing is = absurd (no_value fault.Malformed framing is)
passed false true false q framing is = absurd (no_value fault.Malformed framing is)
passed false true true q framing is = (refl, is)

one_by_tests : (n : ℕ) (one none old : Bool) → (n == 1) ≡ one → (n == 0) ≡ none
    → (one || (none && old)) ≡ true → n ≤ 1
one_by_tests n true none old one zero is = omega (arith, eqb-true n 1 one)
one_by_tests n false true old one zero is = omega (arith, eqb-true n 0 zero)
one_by_tests n false false old one zero is = absurd (not_true_false (sym is))

one_host : (minor n : ℕ) → hosts_fit minor n ≡ true → n ≤ 1
one_host minor n is = one_by_tests n (n == 1) (n == 0) (minor == 0) refl refl is

head_passed : (head : RequestHead) (framing : Framing) → request_framing head ≡ Ok framing
    → (hosts_fit head.minor (count_named (codes "host") head.lines) ≡ true)
    × (lengths_of most_body head.minor head.lines Bodiless ≡ Ok framing)
head_passed head framing is =
    passed (is_refused head.method) (is_target head.method head.target)
    (hosts_fit head.minor (count_named (codes "host") head.lines))
    (lengths_of most_body head.minor head.lines Bodiless) framing is

-- what is made of a head and a body
module _ {V : Type 0} (make : Option (List ℕ) → V) (framing : Framing) (v : V) (rest : List ℕ) where
  made_of : (bytes : List ℕ) (r : Reading V) → IsWithBody make framing bytes r
      → r ≡ Ok (v, rest) → (body : Option (List ℕ)) × (make body ≡ v)
  made_of bytes r (IsWithBody.body_read _ after body x) is =
      (body, ap (λ p. p.0) (same_value (make body, after) (v, rest) is))
  made_of bytes r (IsWithBody.body_fails _ f x) is = absurd (no_value f (v, rest) is)

checked_is : (own head : RequestHead) (framing : Framing) (q : Result Framing Fault)
    (mid after : List ℕ)
    → ◌≡◌ {A = Reading (RequestHead × Framing)} (checked (framed own q) mid)
    (Ok ((head, framing), after)) → (own ≡ head) × (q ≡ Ok framing)
checked_is own head framing (Ok g) mid after is =
    let same = ap (λ p. p.0) (same_value ((own, g), mid) ((head, framing), after) is) in
    (ap (λ p. p.0) same, ap (λ (p : RequestHead × Framing). Ok p.1) same)
checked_is own head framing (Err f) mid after is =
    absurd (no_value f ((head, framing), after) is)

head_checked : (head : RequestHead) (framing : Framing) (after bytes : List ℕ)
    (r : Reading (RequestHead × Framing)) → IsCheckedHead bytes r
    → r ≡ Ok ((head, framing), after) → request_framing head ≡ Ok framing
head_checked head framing after bytes r (Then.first_fails _ f x) is =
    absurd (no_value f ((head, framing), after) is)
head_checked head framing after bytes r (Then.goes_on _ mid own _ x y) is =
    let same = checked_is own head framing (request_framing own) mid after (sym y ∙ is) in
    subst (λ h. request_framing h ≡ Ok framing) same.0 same.1

module _ (request : Request) (rest : List ℕ) where
  -- the head of a request that was read passed all checks
  request_checked : (bytes : List ℕ) (r : Reading Request) → IsRequest bytes r
      → r ≡ Ok (request, rest)
      → (head : RequestHead) × (framing : Framing) × (request.headers ≡ head.lines)
      × (request_framing head ≡ Ok framing)
  request_checked bytes r (Then.first_fails _ f x) is = absurd (no_value f (request, rest) is)
  request_checked bytes r (Then.goes_on _ mid pair _ x y) is =
      let made = made_of (request_of pair.0) pair.1 request rest mid r y is in (
        pair.0,
        pair.1,
        sym (ap (λ (q : Request). q.headers) made.1),
        head_checked pair.0 pair.1 mid bytes (Ok ((pair.0, pair.1), mid)) x refl,
      )

pub requests_unambiguous : (bytes rest : List ℕ) (request : Request)
    → IsRequest bytes (Ok (request, rest)) → IsUnambiguous request.headers
requests_unambiguous bytes rest request is =
    let of = request_checked request rest bytes (Ok (request, rest)) is refl in
    let lengths = (head_passed of.0 of.1 of.3).1 in
    subst IsUnambiguous (sym of.2)
    (lengths_are_one most_body of.0.lines of.0.minor Bodiless of.1 lengths)

pub requests_have_one_host : (bytes rest : List ℕ) (request : Request)
    → IsRequest bytes (Ok (request, rest)) → count_named (codes "host") request.headers ≤ 1
requests_have_one_host bytes rest request is =
    let of = request_checked request rest bytes (Ok (request, rest)) is refl in
    let hosts = (head_passed of.0 of.1 of.3).0 in
    subst (λ lines. count_named (codes "host") lines ≤ 1) (sym of.2)
    (one_host of.0.minor (count_named (codes "host") of.0.lines) hosts)

-- a response with a body has its lengths
with_lengths : (head no_content not_modified : Bool) (q : Result Framing Fault)
    → (head || (no_content || not_modified)) ≡ false
    → (if head || no_content || not_modified then Ok Bodiless else q) ≡ q
with_lengths true no_content not_modified q is = absurd (not_true_false is)
with_lengths false true not_modified q is = absurd (not_true_false is)
with_lengths false false true q is = absurd (not_true_false is)
with_lengths false false false q is = refl

framed_is : (q : Result Framing Fault) (framing : Framing) (bytes mid : List ℕ)
    → ◌≡◌ {A = Reading Framing} (Ok (framing, mid)) (checked q bytes) → q ≡ Ok framing
framed_is (Ok g) framing bytes mid is =
    ap (λ (p : Framing × List ℕ). Ok p.0) (sym (same_value (framing, mid) (g, bytes) is))
framed_is (Err f) framing bytes mid is = absurd (no_value f (framing, mid) (sym is))

module _ (method : List ℕ) (response : ResponseValue) (rest : List ℕ) where
  rest_unambiguous : (head : ResponseHead) (bytes : List ℕ) (r : Reading ResponseValue)
      → is_bodiless method response.status ≡ false → IsResponseRest method head bytes r
      → r ≡ Ok (response, rest) → IsUnambiguous response.headers
  rest_unambiguous head bytes r tells (Then.first_fails _ f x) is =
      absurd (no_value f (response, rest) is)
  rest_unambiguous head bytes r tells (Then.goes_on _ mid framing _ x y) is =
      let made = made_of (response_of head framing) framing response rest mid r y is in
      let status : head.status ≡ response.status = ap (λ (v : ResponseValue). v.status) made.1 in
      let lines : head.lines ≡ response.headers = ap (λ (v : ResponseValue). v.headers) made.1 in
      let told : is_bodiless method head.status ≡ false =
      ap (is_bodiless method) status ∙ tells in
      let framed = framed_is (response_framing method head) framing bytes mid x in
      let lengths = sym (with_lengths (bytes_eq method (codes "HEAD")) (head.status == 204)
      (head.status == 304) (lengths_of most_body head.minor head.lines ToEnd) told) ∙ framed in
      subst IsUnambiguous lines
      (lengths_are_one most_body head.lines head.minor ToEnd framing lengths)

  response_unambiguous : (bytes : List ℕ) (r : Reading ResponseValue)
      → is_bodiless method response.status ≡ false → IsResponse method bytes r
      → r ≡ Ok (response, rest) → IsUnambiguous response.headers
  response_unambiguous bytes r tells (Then.first_fails _ f x) is =
      absurd (no_value f (response, rest) is)
  response_unambiguous bytes r tells (Then.goes_on _ mid head _ x y) is =
      rest_unambiguous head mid r tells y is

pub responses_unambiguous : (method bytes rest : List ℕ) (response : ResponseValue)
    → is_bodiless method response.status ≡ false
    → IsResponse method bytes (Ok (response, rest)) → IsUnambiguous response.headers
responses_unambiguous method bytes rest response tells is =
    response_unambiguous method response rest bytes (Ok (response, rest)) tells is refl
