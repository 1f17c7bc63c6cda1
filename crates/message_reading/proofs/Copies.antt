-- Lines that are copied from where spans cover them.
use Rattle.std.proofs.Common.{◌≡◌, ◌∙◌, sym, ap, refl, ℕ, List, [], ◌∷◌, map, take}
use Rattle.httparse.specs.declared.spans.HeaderSpan.{HeaderSpan}
use Rattle.httparse.specs.Grammar.{Field, RequestHead as RequestText, ResponseHead as ResponseText, status_code}
use Rattle.httparse.specs.Spans.{AreFieldsAt, header_bytes, name_and_value}
use Rattle.message_parts.specs.Header.{Header}
use Rattle.message_reading.specs.declared.request_head.RequestHead.{RequestHead}
use Rattle.message_reading.specs.declared.response_head.ResponseHead.{ResponseHead}
use Rattle.message_reading.specs.WholeHeads.{line_at, line_of, request_head, response_head}

abbrev as_line : List ℕ × List ℕ → Header
as_line p = record { name = p.0; value = p.1 }

spans_lines : (text : List ℕ) (spans : List HeaderSpan)
    → map (line_at text) spans ≡ map as_line (map (header_bytes text) spans)
spans_lines text [] = refl
spans_lines text (s ∷ spans) = ap (λ l. line_at text s ∷ l) (spans_lines text spans)

fields_lines : (fields : List Field) → map line_of fields ≡ map as_line (map name_and_value fields)
fields_lines [] = refl
fields_lines (f ∷ fields) = ap (λ l. line_of f ∷ l) (fields_lines fields)

-- the lines that the spans cover are those of the fields
pub same_lines : (text : List ℕ) (spans : List HeaderSpan) (count : ℕ) (fields : List Field)
    → AreFieldsAt text spans count fields
    → map (line_at text) (take count spans) ≡ map line_of fields
same_lines text spans count fields are =
    spans_lines text (take count spans) ∙ ap (map as_line) are ∙ sym (fields_lines fields)

-- the parts are those of the head
pub same_request : (h : RequestText) (method target : List ℕ) (minor : ℕ) (lines : List Header)
    → method ≡ h.method → target ≡ h.target → minor ≡ h.minor → lines ≡ map line_of h.fields
    → ◌≡◌ {A = RequestHead}
    (record { method = method; target = target; minor = minor; lines = lines }) (request_head h)
same_request h method target minor lines a b c d = rw (a, b, c, d) refl

pub same_response : (h : ResponseText) (status minor : ℕ) (lines : List Header)
    → status ≡ status_code h → minor ≡ h.minor → lines ≡ map line_of h.fields
    → ◌≡◌ {A = ResponseHead}
    (record { status = status; minor = minor; interim = 0; lines = lines }) (response_head h)
same_response h status minor lines a b c = rw (a, b, c) refl
