-- What a call gets, by what its step gives.
use Rattle.std.specs.Prelude.{⊤}
use Rattle.limiter_core.specs.declared.event.Reply.{Reply}
use Rattle.limiter_core.specs.declared.event.Reply.TheVariants as reply
use Rattle.gate_ledgers.specs.Receipt.{Told}
use Rattle.gate_history.specs.declared.answers.Claimed.{Claimed}
use Rattle.gate_history.specs.declared.answers.Claimed.TheVariants as claimed
use Rattle.gate_history.specs.declared.answers.GaveUp.{GaveUp}
use Rattle.gate_history.specs.declared.answers.GaveUp.TheVariants as gave_up
use Rattle.gate_history.specs.declared.answers.Got.{Got}
use Rattle.gate_history.specs.declared.answers.Got.TheVariants as got
use Rattle.gate_history.specs.declared.step.Step.{Step}
use Rattle.gate_history.specs.declared.step.Step.TheVariants.{Done, Exhausted, Permit, Returned}
use Rattle.gate_history.specs.declared.step.Step.TheVariants.{Ticket}

-- what an acquire's step gives: a permit, a ticket, or neither and why; the refusal where the
-- history is exhausted
abbrev pub TurnsAway : Reply → Type 0
TurnsAway reply.Bypassed = ⊤
TurnsAway reply.Full = ⊤
TurnsAway reply.BacklogFull = ⊤
TurnsAway _ = ⊥

abbrev pub turned_away : {N : Type 0} → Told → Reply → Got N
turned_away told reply.Bypassed = got.Bypassed told
turned_away told reply.Full = got.Full told
turned_away told _ = got.BacklogFull told

abbrev pub GivesGot : {N : Type 0} → Step N → Type 0
GivesGot (Done told) = TurnsAway told.reply
GivesGot (Returned refusal ticket) = ⊥
GivesGot _ = ⊤

abbrev pub got_of : {N : Type 0} → Step N → Got N
got_of (Permit told permit) = got.Admitted told permit
got_of (Ticket told ticket) = got.Waiting told ticket
got_of (Done told) = turned_away told told.reply
got_of (Exhausted refusal) = got.Exhausted refusal
got_of (Returned refusal ticket) = got.Exhausted refusal

-- what a claim's step gives: the permit, or the ticket back, as where the history is exhausted, or
-- neither
abbrev pub GivesClaimed : {N : Type 0} → Step N → Type 0
GivesClaimed (Exhausted refusal) = ⊥
GivesClaimed _ = ⊤

abbrev pub claimed_of : {N : Type 0} → Step N → Claimed N
claimed_of (Permit told permit) = claimed.Granted told permit
claimed_of (Ticket told ticket) = claimed.StillWaiting told ticket
claimed_of (Done told) = claimed.Lost told
claimed_of (Returned refusal ticket) = claimed.Exhausted refusal ticket
claimed_of (Exhausted refusal) = claimed.Exhausted refusal 0

-- what a giving up's step gives: the permit, or none and whether its number still waited
abbrev pub GivesGaveUp : {N : Type 0} → Step N → Type 0
GivesGaveUp (Ticket told ticket) = ⊥
GivesGaveUp (Returned refusal ticket) = ⊥
GivesGaveUp _ = ⊤

abbrev pub let_go : {N : Type 0} → Told → Reply → GaveUp N
let_go told reply.TimedOut = gave_up.TimedOut told
let_go told _ = gave_up.Lost told

abbrev pub gave_up_of : {N : Type 0} → Step N → GaveUp N
gave_up_of (Permit told permit) = gave_up.Granted told permit
gave_up_of (Done told) = let_go told told.reply
gave_up_of (Ticket told ticket) = let_go told told.reply
gave_up_of (Exhausted refusal) = gave_up.Exhausted refusal
gave_up_of (Returned refusal ticket) = gave_up.Exhausted refusal

-- a step that hands nothing out
abbrev pub GivesNothing : {N : Type 0} → Step N → Type 0
GivesNothing (Done told) = ⊤
GivesNothing (Exhausted refusal) = ⊤
GivesNothing _ = ⊥
