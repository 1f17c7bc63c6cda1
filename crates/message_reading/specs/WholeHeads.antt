-- Heads that httparse reads whole.
use Rattle.std.specs.Prelude.{◌≤◌, ℕ, List, [], length, map, Ok, Err}
use Rattle.httparse.specs.declared.spans.HeaderSpan.{HeaderSpan}
use Rattle.httparse.specs.declared.spans.RequestSpans.{RequestSpans}
use Rattle.httparse.specs.declared.spans.ResponseSpans.{ResponseSpans}
use Rattle.httparse.specs.Grammar.{Field, ReadsRequest, ReadsResponse, RequestHead as RequestText, ResponseHead as ResponseText, field_value, status_code}
use Rattle.httparse.specs.Spans.{IsRequestAt, IsRequestWithin, IsResponseAt, IsResponseWithin, span_bytes}
use Rattle.message_parts.specs.Header.{Header}
use Rattle.message_reading.specs.Reading.{Reading}
use Rattle.message_reading.specs.declared.fault.Fault.TheVariants.{Malformed}
use Rattle.message_reading.specs.declared.request_head.RequestHead.{RequestHead}
use Rattle.message_reading.specs.declared.response_head.ResponseHead.{ResponseHead}

-- the bytes are a request head, and nothing else
abbrev pub IsWholeRequest : List ℕ → RequestText → Type 0
IsWholeRequest bytes h = ReadsRequest bytes h []

-- the bytes are no request head
abbrev pub HasNoWholeRequest : List ℕ → Type 0
HasNoWholeRequest bytes = (h : RequestText) → ¬ (IsWholeRequest bytes h)

-- the bytes are a response head, and nothing else
abbrev pub IsWholeResponse : List ℕ → ResponseText → Type 0
IsWholeResponse bytes h = ReadsResponse bytes h []

-- the bytes are no response head
abbrev pub HasNoWholeResponse : List ℕ → Type 0
HasNoWholeResponse bytes = (h : ResponseText) → ¬ (IsWholeResponse bytes h)

-- the parts are those of the request head that the bytes are, whose lines the spans cover
abbrev pub AreRequestParts : RequestSpans → List HeaderSpan → List ℕ → Type 0
AreRequestParts parts spans bytes =
    ((h : RequestText) × IsRequestAt bytes spans parts h × IsWholeRequest bytes h)
    × IsRequestWithin bytes spans parts

-- the same of a response head
abbrev pub AreResponseParts : ResponseSpans → List HeaderSpan → List ℕ → Type 0
AreResponseParts parts spans bytes =
    ((h : ResponseText) × IsResponseAt bytes spans parts h × IsWholeResponse bytes h)
    × IsResponseWithin bytes spans parts

-- no request head with so many lines behind its first one, or fewer, stands in front of the bytes
abbrev pub HasNoRequestOf : ℕ → List ℕ → Type 0
HasNoRequestOf most bytes =
    (h : RequestText) (rest : List ℕ) → ReadsRequest bytes h rest → ¬ (length h.fields ≤ most)

-- the same of a response head
abbrev pub HasNoResponseOf : ℕ → List ℕ → Type 0
HasNoResponseOf most bytes =
    (h : ResponseText) (rest : List ℕ) → ReadsResponse bytes h rest → ¬ (length h.fields ≤ most)

-- a field's name, and its value without the blanks around it
abbrev pub line_of : Field → Header
line_of f = record { name = f.name; value = field_value f }

-- the same where spans cover them
abbrev pub line_at : List ℕ → HeaderSpan → Header
line_at text span =
    record { name = span_bytes text span.name; value = span_bytes text span.value }

-- what a request head says
abbrev pub request_head : RequestText → RequestHead
request_head h = record {
  method = h.method;
  target = h.target;
  minor = h.minor;
  lines = map line_of h.fields;
}

-- what a response head says; those before it aren't known here
abbrev pub response_head : ResponseText → ResponseHead
response_head h = record {
  status = status_code h;
  minor = h.minor;
  interim = 0;
  lines = map line_of h.fields;
}

-- what a request head's bytes are read as; nothing behind them is read
pub data IsRequestIn (text : List ℕ) : List ℕ → Reading RequestHead → Type 0 where
  request_is : (bytes : List ℕ) (h : RequestText) → IsWholeRequest text h
      → IsRequestIn text bytes (Ok (request_head h, bytes))
  no_request : (bytes : List ℕ) → HasNoWholeRequest text → IsRequestIn text bytes (Err Malformed)

-- the same of a response head's bytes
pub data IsResponseIn (text : List ℕ) : List ℕ → Reading ResponseHead → Type 0 where
  response_is : (bytes : List ℕ) (h : ResponseText) → IsWholeResponse text h
      → IsResponseIn text bytes (Ok (response_head h, bytes))
  no_response : (bytes : List ℕ) → HasNoWholeResponse text
      → IsResponseIn text bytes (Err Malformed)
