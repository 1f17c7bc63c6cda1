-- What may come of a connection behind a response.
use Rattle.std.specs.Prelude.{ℕ, ◌||◌, ◌==◌, if◌then◌else◌}
use Rattle.message_fields.specs.Passed.{asks_close}
use Rattle.message_reading.specs.declared.framing.Framing.{Framing}
use Rattle.message_reading.specs.declared.framing.Framing.TheVariants.{Bodiless, Sized, Chunked, ToEnd}
use Rattle.message_reading.specs.declared.response_head.ResponseHead.{ResponseHead}
use Rattle.wire.specs.declared.reuse.Reuse.{Reuse}
use Rattle.wire.specs.declared.reuse.Reuse.TheVariants.{Closing, Ready, Doubtful}

-- behind a response with so many interim ones before it that keeps its connection: one with a
-- length or in chunks leaves it ready for another request, where it is the first
abbrev pub reuse_by : ℕ → Framing → Reuse
reuse_by interim Bodiless = Doubtful
reuse_by interim (Sized size) = if interim == 0 then Ready else Doubtful
reuse_by interim Chunked = if interim == 0 then Ready else Doubtful
reuse_by interim ToEnd = Closing

-- HTTP/1.0 and the option `close` end the connection
abbrev pub reuse_of : ResponseHead → Framing → Reuse
reuse_of head framing =
    if (head.minor == 0) || asks_close head.lines then Closing else reuse_by head.interim framing
