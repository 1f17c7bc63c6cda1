-- What it is that a client was served, told by the bytes of its two ends.
use Rattle.std.specs.Prelude.{◌≡◌, ℕ, Bool, true, List, [], Option}
use Rattle.std.specs.Io.KnownBytes.{append_known}
use Rattle.counted_io.specs.declared.counted.Counted.{Counted}
use Rattle.counted_io.specs.Counted.{fresh, inner_of}
use Rattle.client_tokens.specs.Roll.{Seen}

-- a reader or a writer by its counts and by what is known of its bytes
abbrev pub counted_by : {T : Type 0} → (T → Option (List ℕ)) → Counted T
    → Counted (Option (List ℕ))
counted_by bytes c = record {
  inner = bytes c.inner;
  calls = c.calls;
  flushes = c.flushes;
  failures = c.failures;
  is_flushed = c.is_flushed;
}

-- the two ends of a connection: what the client has yet to send, and what was written to it, where
-- they are known, with the counts of their calls
pub record Ends : Type 0 where
  pub reader : Counted (Option (List ℕ))
  pub writer : Counted (Option (List ℕ))

abbrev pub ends_at : {R W : Type 0} → (R → Option (List ℕ)) → (W → Option (List ℕ))
    → Counted R → Counted W → Ends
ends_at remaining contents reader writer = record {
  reader = counted_by remaining reader;
  writer = counted_by contents writer;
}

-- those of a client that nobody called yet
abbrev pub uncalled : Seen → Ends
uncalled client = record { reader = fresh client.sent; writer = fresh client.written }

-- what was written is all that the writer was given, but for what it held and didn't send; where
-- it is told that all was sent, it held nothing
abbrev pub IsSent : Option (List ℕ) → Option (List ℕ) → Bool → Type 0
IsSent given written sent =
    (held : List ℕ) × (given ≡ append_known written held) × (sent ≡ true → held ≡ [])

-- HANDLED: it began over a reader and a writer that weren't called yet, with what the client would
-- send and what had been written to it; what was written to the client is what the handler gave its
-- writer; and it was told whether all was sent. Where the client is kept, it has yet to send just
-- what the handler left unread
pub record IsHandled {T : Type 0} (Handles : Ends → Ends → T → Type 0) (told_sent : Bool → T → T)
    (kept : T → Bool) (before behind : Seen) (told : T) : Type 0 where
  pub ends : Ends
  pub first : T
  pub sent : Bool
  pub handled : Handles (uncalled before) ends first
  pub same : told ≡ told_sent sent first
  pub ended : IsSent (inner_of ends.writer) behind.written sent
  pub unread : kept told ≡ true → behind.sent ≡ inner_of ends.reader
