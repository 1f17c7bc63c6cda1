-- Messages: what the bytes of a reader are read as.
use Rattle.std.specs.Prelude.{ℕ, ◌==◌, ⊤, ◌⊎◌, List, [], Option, Some, None, Result, Ok, Err, IfSome, if◌then◌else◌}
use Rattle.std.specs.Prelude.{take}
use Rattle.std.specs.Io.KnownBytes.{Appends}
use Rattle.message_fields.specs.Target.{path_of}
use Rattle.message_reading.specs.Reading.{By, Reading, Then, checked}
use Rattle.message_reading.specs.declared.fault.Fault.{Fault}
use Rattle.message_reading.specs.declared.request_head.RequestHead.{RequestHead}
use Rattle.message_reading.specs.declared.response_head.ResponseHead.{ResponseHead}
use Rattle.message_reading.specs.declared.framing.Framing.{Framing}
use Rattle.message_reading.specs.Framing.{response_framing, response_framing_within}
use Rattle.message_reading.specs.Heads.{IsCheckedHead, IsFinalHead}
use Rattle.message_reading.specs.Body.{IsWithBody}
use Rattle.message_reading.specs.Continue.{Says}
use Rattle.wire.specs.declared.fault.WireFault.{WireFault}
use Rattle.message_parts.specs.declared.request.Request.{Request}
use Rattle.message_parts.specs.declared.request.Version.{Version}
use Rattle.message_parts.specs.declared.request.Version.TheVariants.{Http10, Http11}
use Rattle.wire.specs.Fault.{bytes_fault}
use Rattle.wire.specs.Response.{BegunValue, ResponseValue, finished}
use Rattle.wire.specs.Reuse.{reuse_of}

-- HTTP/1.0 or HTTP/1.1
abbrev pub version_of : ℕ → Version
version_of minor = if minor == 0 then Http10 else Http11

-- the request with this head and body
abbrev pub request_of : RequestHead → Option (List ℕ) → Request
request_of head body = record {
  method = head.method;
  target = head.target;
  path = path_of head.target;
  version = version_of head.minor;
  headers = head.lines;
  body = body;
}

-- a request: its head, the checks of it, and its body
abbrev pub IsRequest : List ℕ → Reading Request → Type 0
IsRequest = Then IsCheckedHead (λ checked. IsWithBody (request_of checked.0) checked.1)

-- the beginning of the response with this head, whose body is delimited so
abbrev pub begun_of : ResponseHead → Framing → BegunValue
begun_of head framing = record {
  status = head.status;
  headers = head.lines;
  framing = framing;
  reuse = reuse_of head framing;
}

-- the same, or the fault of its lengths
abbrev pub begun_by : ResponseHead → Result Framing Fault → Result BegunValue Fault
begun_by head (Ok framing) = Ok (begun_of head framing)
begun_by head (Err f) = Err f

-- the beginning of a response to a request of this method, whose body has at most so many bytes: at
-- most 16 interim heads, its head and its lengths
abbrev pub IsBegun : ℕ → List ℕ → List ℕ → Reading BegunValue → Type 0
IsBegun most method =
    Then (IsFinalHead 16)
    (λ head. By (checked (begun_by head (response_framing_within most method head))))

-- what follows the beginning of a response: its body
abbrev pub IsFinish : BegunValue → List ℕ → Reading ResponseValue → Type 0
IsFinish begun = IsWithBody (finished begun) begun.framing

-- the response with this head and body, where the body is delimited so
abbrev pub response_of : ResponseHead → Framing → Option (List ℕ) → ResponseValue
response_of head framing body = record {
  status = head.status;
  headers = head.lines;
  body = body;
  reuse = reuse_of head framing;
}

-- what follows the head of a response to a request of this method: its lengths and its body
abbrev pub IsResponseRest : List ℕ → ResponseHead → List ℕ → Reading ResponseValue → Type 0
IsResponseRest method head =
    Then (By (checked (response_framing method head)))
    (λ framing. IsWithBody (response_of head framing) framing)

-- a response to a request of this method: at most 16 interim heads, its head, lengths and body
abbrev pub IsResponse : List ℕ → List ℕ → Reading ResponseValue → Type 0
IsResponse method = Then (IsFinalHead 16) (IsResponseRest method)

-- the writer got what is said to a client that sends these bytes
abbrev pub SaidRight : List ℕ → Option (List ℕ) → Option (List ℕ) → Type 0
SaidRight bytes old new = (text : List ℕ) × Says bytes text × Appends old new text

-- it got that; or, where memory or the reader stood in the way, perhaps nothing yet
abbrev pub Said : {X : Type 0} → Option (List ℕ) → Option (List ℕ) → Option (List ℕ)
    → Result X WireFault → Type 0
Said None old new result = ⊤
Said (Some bytes) old new (Ok x) = SaidRight bytes old new
Said (Some bytes) old new (Err f) =
    IfSome (bytes_fault f) (λ own. SaidRight bytes old new)
    × (Appends old new [] ⊎ SaidRight bytes old new)

-- where its writer failed, it got a beginning of that
abbrev pub SaidFront : Option (List ℕ) → Option (List ℕ) → Option (List ℕ) → Type 0
SaidFront None old new = ⊤
SaidFront (Some bytes) old new =
    (text : List ℕ) × Says bytes text × (count : ℕ) × Appends old new (take count text)
