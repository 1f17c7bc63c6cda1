-- A listener whose accepts are counted.
use Rattle.std.specs.Prelude.{ℕ}
use Rattle.listening.specs.declared.counted_listener.CountedListener.{CountedListener}

-- the listener itself
abbrev pub listener_of : {L K : Type 0} → CountedListener L K → L
listener_of counted = counted.listener.now

-- the token by which it is asked
abbrev pub token_of : {L K : Type 0} → CountedListener L K → K
token_of counted = counted.token

-- how many accepts gave a client, and how many gave none
abbrev pub accepted_of : {L K : Type 0} → CountedListener L K → ℕ
accepted_of counted = counted.accepted

abbrev pub missed_of : {L K : Type 0} → CountedListener L K → ℕ
missed_of counted = counted.missed

-- how many clients were left there
abbrev pub kept_of : {L K : Type 0} → CountedListener L K → ℕ
kept_of counted = counted.kept
