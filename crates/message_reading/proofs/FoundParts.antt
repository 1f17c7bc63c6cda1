-- The parts of a head that were found in front of other bytes.
use Rattle.std.proofs.Common.{arith, ◌≡◌, ◌≤◌, ◌<◌, ◌+◌, ◌-◌, ◌∙◌, ◌++◌, All, sym, ap, ap₂, refl, ℕ, List, [], ◌∷◌, length, length-take-le, map, take, drop, take-take, take_at}
use Rattle.std.proofs.lemmas.List.{append-nil, drop-take, length-map}
use Rattle.std.proofs.lemmas.List.Elements.{All-head, All-tail}
use Rattle.httparse.specs.declared.spans.HeaderSpan.{HeaderSpan}
use Rattle.httparse.specs.declared.spans.RequestSpans.{RequestSpans}
use Rattle.httparse.specs.declared.spans.ResponseSpans.{ResponseSpans}
use Rattle.httparse.specs.declared.spans.Span.{Span}
use Rattle.httparse.specs.Grammar.{Field, print_request, print_response}
use Rattle.httparse.specs.Spans.{AreFieldsAt, IsHeaderWithin, IsRequestAt, IsRequestOf, IsRequestWithin, IsResponseAt, IsResponseOf, IsResponseWithin, IsSectionWithin, IsWithin, header_bytes, name_and_value, span_bytes}
use Rattle.message_reading.specs.HeadTexts.{IsHeadText}
use Rattle.message_reading.specs.WholeHeads.{AreRequestParts, AreResponseParts, IsWholeRequest, IsWholeResponse}
use Rattle.message_reading.proofs.HeadTexts.{request_is_text, response_is_text, some_text}

span_front : (bytes : List ℕ) (n : ℕ) (s : Span) → IsWithin n s
    → span_bytes (take n bytes) s ≡ span_bytes bytes s
span_front bytes n s within =
    let split : n ≡ s.start + (n - s.start) = omega arith in
    let behind : drop s.start (take n bytes) ≡ take (n - s.start) (drop s.start bytes) =
    ap (λ k. drop s.start (take k bytes)) split ∙ drop-take s.start (n - s.start) bytes in
    ap (take (s.end - s.start)) behind
    ∙ take-take (s.end - s.start) (n - s.start) (drop s.start bytes) (omega arith)

headers_front : (bytes : List ℕ) (n : ℕ) (spans : List HeaderSpan) → All (IsHeaderWithin n) spans
    → map (header_bytes (take n bytes)) spans ≡ map (header_bytes bytes) spans
headers_front bytes n [] within = refl
headers_front bytes n (s ∷ spans) within =
    let first = All-head (IsHeaderWithin n) s spans within in
    ap₂ (λ (h : List ℕ × List ℕ) (hs : List (List ℕ × List ℕ)). h ∷ hs)
    (ap₂ (λ (a b : List ℕ). (a, b)) (span_front bytes n s.name first.0)
    (span_front bytes n s.value first.1))
    (headers_front bytes n spans (All-tail (IsHeaderWithin n) s spans within))

-- a head of either kind that was found in front of the bytes, so many bytes long, with spans over
-- its lines: these first bytes are its text alone, and the spans cover the lines in them too
record IsAlone (bytes : List ℕ) (spans : List HeaderSpan) (len count : ℕ) (text : List ℕ)
    (fields : List Field) : Type 0 where
  whole : take len bytes ≡ text ++ []
  reads : take len bytes ≡ text ++ drop len (take len bytes)
  lines : AreFieldsAt (take len bytes) spans count fields
  section : IsSectionWithin (take len bytes) spans len count
  size : length (take len bytes) ≡ len
  few : length fields ≤ length spans

alone : (bytes : List ℕ) (spans : List HeaderSpan) (len count : ℕ) (text : List ℕ)
    (fields : List Field) → bytes ≡ text ++ drop len bytes → len ≡ length text
    → AreFieldsAt bytes spans count fields → IsSectionWithin bytes spans len count
    → IsAlone bytes spans len count text fields
alone bytes spans len count text fields reads is lines within =
    let size = length-take-le len bytes within.len_fits in
    let split : len ≡ len + 0 = omega arith in
    let none : drop len (take len bytes) ≡ [] =
    ap (λ k. drop len (take k bytes)) split ∙ drop-take len 0 bytes in
    let whole = ap (take len) reads ∙ take_at text (drop len bytes) len (sym is)
    ∙ sym (append-nil text) in
    let written = length-take-le count spans within.count_fits in
    let covered = length-map (take count spans) (header_bytes bytes) in
    let told = length-map fields name_and_value in
    let same = ap length lines in
    record {
      whole = whole;
      reads = whole ∙ ap (λ rest. text ++ rest) (sym none);
      lines = headers_front bytes len (take count spans) within.headers_fit ∙ lines;
      section = record {
        len_fits = omega arith;
        count_fits = within.count_fits;
        headers_fit = within.headers_fit;
      };
      size = size;
      few = omega (arith, within.count_fits);
    }

-- what was found in front of the bytes shown: how long it is, and what it is
pub record IsFront {P : Type 0} (AreOf : P → List HeaderSpan → List ℕ → Type 0)
    (bytes : List ℕ) (spans : List HeaderSpan) (parts : P) (len : ℕ) : Type 0 where
  pub fits : len ≤ length bytes
  pub some : 0 < len
  pub are : AreOf parts spans (take len bytes)
  pub text : IsHeadText (take len bytes)

pub request_front : (bytes : List ℕ) (spans : List HeaderSpan) (r : RequestSpans)
    → length bytes ≤ 65536 → length spans ≤ 100 → IsRequestOf bytes spans r
    → IsRequestWithin bytes spans r → IsFront AreRequestParts bytes spans r r.len
request_front bytes spans r short few (h, at) within =
    let found = alone bytes spans r.len r.headers (print_request h) h.fields at.reads.1 at.len
    at.fields within.section in
    let there : IsRequestAt (take r.len bytes) spans r h = record {
      reads = (at.reads.0, found.reads);
      len = at.len;
      method = span_front bytes r.len r.method within.method ∙ at.method;
      path = span_front bytes r.len r.path within.path ∙ at.path;
      version = at.version;
      fields = found.lines;
    } in
    let is : IsWholeRequest (take r.len bytes) h = (at.reads.0, found.whole) in
    let inside : IsRequestWithin (take r.len bytes) spans r = search (found.section) in
    let text = request_is_text (take r.len bytes) h is (omega arith) (omega arith) in
    record {
      fits = within.section.len_fits;
      some = omega (arith, some_text (take r.len bytes) text);
      are = ((h, there, is), inside);
      text = text;
    }

pub response_front : (bytes : List ℕ) (spans : List HeaderSpan) (r : ResponseSpans)
    → length bytes ≤ 65536 → length spans ≤ 100 → IsResponseOf bytes spans r
    → IsResponseWithin bytes spans r → IsFront AreResponseParts bytes spans r r.len
response_front bytes spans r short few (h, at) within =
    let found = alone bytes spans r.len r.headers (print_response h) h.fields at.reads.1 at.len
    at.fields within.section in
    let there : IsResponseAt (take r.len bytes) spans r h = record {
      reads = (at.reads.0, found.reads);
      len = at.len;
      version = at.version;
      code = at.code;
      reason = span_front bytes r.len r.reason within.reason ∙ at.reason;
      fields = found.lines;
    } in
    let is : IsWholeResponse (take r.len bytes) h = (at.reads.0, found.whole) in
    let inside : IsResponseWithin (take r.len bytes) spans r = search (found.section) in
    let text = response_is_text (take r.len bytes) h is (omega arith) (omega arith) in
    record {
      fits = within.section.len_fits;
      some = omega (arith, some_text (take r.len bytes) text);
      are = ((h, there, is), inside);
      text = text;
    }
