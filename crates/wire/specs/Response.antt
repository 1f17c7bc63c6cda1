-- What a response is to its reader.
use Rattle.std.specs.Prelude.{ℕ, List, Option}
use Rattle.message_parts.specs.Header.{Header}
use Rattle.message_reading.specs.declared.framing.Framing.{Framing}
use Rattle.wire.specs.declared.reuse.Reuse.{Reuse}

-- its status, its header lines in order, its body where it has one, and what may come of the
-- connection that it was read from
pub record ResponseValue : Type 0 where
  pub status : ℕ
  pub headers : List Header
  pub body : Option (List ℕ)
  pub reuse : Reuse

-- what is known of a response once its head was read: its status, its header lines in order, how
-- its body is delimited, and what may come of the connection behind the body
pub record BegunValue : Type 0 where
  pub status : ℕ
  pub headers : List Header
  pub framing : Framing
  pub reuse : Reuse

-- the response that begins so, with this body
abbrev pub finished : BegunValue → Option (List ℕ) → ResponseValue
finished begun body = record {
  status = begun.status;
  headers = begun.headers;
  body = body;
  reuse = begun.reuse;
}
