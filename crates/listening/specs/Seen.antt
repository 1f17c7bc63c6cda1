-- A client, as the ends of its connection tell.
use Rattle.std.specs.Prelude.{ℕ, List, Option}
use Rattle.client_tokens.specs.Roll.{Seen}
use Rattle.timed_io.specs.declared.client_ends.ClientEnds.{ClientEnds}
use Rattle.timed_io.specs.Client.{from_of, to_of}

-- what it has yet to send, and what was written to it so far, where they are known
abbrev pub seen_at : {I O : Type 0} → (I → Option (List ℕ)) → (O → Option (List ℕ))
    → ClientEnds I O → Seen
seen_at remaining contents ends =
    record { sent = remaining (from_of ends); written = contents (to_of ends) }
