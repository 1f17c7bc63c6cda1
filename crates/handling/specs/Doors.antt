-- What a clause reads of a door.
use Rattle.std.specs.Prelude.{ℕ, Bool, Option}
use Rattle.client_tokens.specs.Roll.{Roll}
use Rattle.listening.specs.declared.counted_listener.CountedListener.{CountedListener}
use Rattle.listening.specs.Accepted.{accepted_of, kept_of, listener_of, missed_of, token_of}
use Rattle.handling.specs.declared.door.Door.{Door}

-- where its clients come from, with the counts of the accepts
abbrev pub counted_in : {L K N : Type 0} → Door L K N → CountedListener L K
counted_in door = door.listener

-- how many accepts gave a client, and how many gave none
abbrev pub given_of : {L K N : Type 0} → Door L K N → ℕ
given_of door = accepted_of door.listener

abbrev pub failed_of : {L K N : Type 0} → Door L K N → ℕ
failed_of door = missed_of door.listener

-- how many clients were left to wait
abbrev pub left_at : {L K N : Type 0} → Door L K N → ℕ
left_at door = kept_of door.listener

-- whether its listener was found closed
abbrev pub is_closed : {L K N : Type 0} → Door L K N → Bool
is_closed door = door.closed

-- who was given and left at it, by its token
abbrev pub roll_at : {L K N : Type 0} → (L → K → Option Roll) → Door L K N → Option Roll
roll_at roll door = roll (listener_of door.listener) (token_of door.listener)
