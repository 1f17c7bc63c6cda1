-- The text that asks for a body.
use Rattle.std.specs.Prelude.{◌≡◌, ◌⊎◌, ℕ, Bool, true, false, ◌&&◌, ◌==◌, nat_lt, List, [], Ok, Err, codes, if◌then◌else◌}
use Rattle.counted_io.specs.declared.counted.Counted.{Counted}
use Rattle.counted_io.specs.Counted.{is_flushed}
use Rattle.message_fields.specs.Lines.{asks_continue}
use Rattle.message_reading.specs.declared.fault.Fault.{Fault}
use Rattle.message_reading.specs.declared.request_head.RequestHead.{RequestHead}
use Rattle.message_reading.specs.declared.framing.Framing.{Framing}
use Rattle.message_reading.specs.declared.framing.Framing.TheVariants.{Sized, Chunked}
use Rattle.message_reading.specs.Heads.{IsCheckedHead}

-- a body is to come: one in chunks, or of some bytes
abbrev pub wants_body : Framing → Bool
wants_body (Sized size) = nat_lt 0 size
wants_body Chunked = true
wants_body _ = false

-- an HTTP/1.1 client waits to be asked for its body
abbrev pub is_awaited : RequestHead → Framing → Bool
is_awaited head framing =
    (head.minor == 1) && (wants_body framing && asks_continue head.lines)

-- what is said before the body is read
abbrev pub continue_of : RequestHead → Framing → List ℕ
continue_of head framing =
    if is_awaited head framing then codes "HTTP/1.1 100 Continue\r\n\r\n" else []

-- the writer is as it was, or all that was written to it is flushed
abbrev pub IsSeen : {W : Type 0} → Counted W → Counted W → Type 0
IsSeen old new = (new ≡ old) ⊎ (is_flushed new ≡ true)

-- what is said to a client that sends these bytes
pub data Says : List ℕ → List ℕ → Type 0 where
  silent : (bytes : List ℕ) (f : Fault) → IsCheckedHead bytes (Err f) → Says bytes []
  asks : (bytes rest : List ℕ) (head : RequestHead) (framing : Framing)
      → IsCheckedHead bytes (Ok ((head, framing), rest)) → Says bytes (continue_of head framing)
