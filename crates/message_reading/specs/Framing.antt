-- How the body of a message is delimited, and the checks of a head before that.
use Rattle.std.specs.Prelude.{ℕ, Bool, ◌&&◌, ◌||◌, ◌==◌, nat_lt, List, Result, Ok, Err, codes, bytes_eq, if◌then◌else◌}
use Rattle.message_parts.specs.Header.{Header}
use Rattle.message_fields.specs.declared.length.LengthFault.{LengthFault}
use Rattle.message_fields.specs.declared.length.LengthFault.TheVariants.{TooLarge}
use Rattle.message_fields.specs.Lines.{count_named, is_chunked_alone}
use Rattle.message_fields.specs.Lengths.{length_within, most_body}
use Rattle.message_fields.specs.Target.{is_target}
use Rattle.message_reading.specs.declared.fault.Fault.{Fault}
use Rattle.message_reading.specs.declared.fault.Fault.TheVariants as fault
use Rattle.message_reading.specs.declared.request_head.RequestHead.{RequestHead}
use Rattle.message_reading.specs.declared.response_head.ResponseHead.{ResponseHead}
use Rattle.message_reading.specs.declared.framing.Framing.{Framing}
use Rattle.message_reading.specs.declared.framing.Framing.TheVariants.{Bodiless, Sized, Chunked, ToEnd}

-- by lines of Transfer-Encoding: `chunked` alone, in a version that has codings
abbrev pub coded : ℕ → List Header → Result Framing Fault
coded minor lines =
    if minor == 0 then Err fault.Malformed
    else (if is_chunked_alone lines then Ok Chunked else Err fault.Coding)

-- by a length
abbrev pub sized_by : Result ℕ LengthFault → Result Framing Fault
sized_by (Ok size) = Ok (Sized size)
sized_by (Err TooLarge) = Err fault.BodyTooLarge
sized_by _ = Err fault.Malformed

-- by lines of Content-Length, in a body of at most so many bytes
abbrev pub sized : ℕ → List Header → Result Framing Fault
sized most lines = sized_by (length_within most lines)

-- by the lines of a head, and as `without` where they say nothing
abbrev pub lengths_of : ℕ → ℕ → List Header → Framing → Result Framing Fault
lengths_of most minor lines without =
    let codings = count_named (codes "transfer-encoding") lines in
    let lengths = count_named (codes "content-length") lines in
    if nat_lt 0 codings && nat_lt 0 lengths then Err fault.BothLengths
    else (if nat_lt 0 codings then coded minor lines
    else (if nat_lt 0 lengths then sized most lines else Ok without))

-- a method that isn't served
abbrev pub is_refused : List ℕ → Bool
is_refused method = bytes_eq method (codes "CONNECT") || bytes_eq method (codes "TRACE")

-- HTTP/1.1 wants one line of Host, HTTP/1.0 one at most
abbrev pub hosts_fit : ℕ → ℕ → Bool
hosts_fit minor hosts = (hosts == 1) || ((hosts == 0) && (minor == 0))

-- the checks of a request's head in their order, and then its lengths, where a body has at most so
-- many bytes
abbrev pub request_framing_within : ℕ → RequestHead → Result Framing Fault
request_framing_within most head =
    if is_refused head.method then Err fault.Method
    else (if is_target head.method head.target
    then (if hosts_fit head.minor (count_named (codes "host") head.lines)
    then lengths_of most head.minor head.lines Bodiless
    else Err fault.Malformed) else Err fault.Malformed)

-- a body that is read whole has at most 8,388,608 bytes
abbrev pub request_framing : RequestHead → Result Framing Fault
request_framing head = request_framing_within most_body head

-- a response has no body where the request was HEAD and with the status 204 or 304; else its
-- lengths say, where a body has at most so many bytes
abbrev pub response_framing_within : ℕ → List ℕ → ResponseHead → Result Framing Fault
response_framing_within most method head =
    if bytes_eq method (codes "HEAD") || (head.status == 204) || (head.status == 304)
    then Ok Bodiless else lengths_of most head.minor head.lines ToEnd

-- a body that is read whole has at most 8,388,608 bytes
abbrev pub response_framing : List ℕ → ResponseHead → Result Framing Fault
response_framing method head = response_framing_within most_body method head
