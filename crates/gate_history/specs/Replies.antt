-- What a step that is done may reply and hand out, by its event.
use Rattle.std.specs.Prelude.{◌≡◌, ℕ, ◌<◌, Bool, true, false}
use Rattle.limit_laws.specs.Facts.{moment}
use Rattle.limiter_core.specs.declared.event.Event.{Event}
use Rattle.limiter_core.specs.declared.event.Event.TheVariants.{Acquire, End, Claim, GiveUp}
use Rattle.limiter_core.specs.declared.event.Event.TheVariants.{SetLimit, Reset, Look}
use Rattle.limiter_core.specs.declared.event.Reply.{Reply}
use Rattle.limiter_core.specs.declared.event.Reply.TheVariants as reply
use Rattle.limiter_core.specs.declared.event.PermitFacts.{PermitFacts}
use Rattle.limiter_core.specs.History.{permit_of}
use Rattle.gate_history.specs.Handing.{Given, nothing, permit, ticket}

-- an acquire that gets nothing: bypassed where it asks for it, else full or, where it would wait,
-- turned away by the backlog
abbrev pub IsTurnedAway : Bool → Bool → Reply → Type 0
IsTurnedAway bypass wait reply.Bypassed = bypass ≡ true
IsTurnedAway bypass wait reply.Full = (bypass ≡ false) × (wait ≡ false)
IsTurnedAway bypass wait reply.BacklogFull = (bypass ≡ false) × (wait ≡ true)
IsTurnedAway bypass wait _ = ⊥

-- an admitted acquire's permit, with its number, part and moment, and what was in flight; one that
-- asks to be let through gets none
abbrev pub IsOwn : ℕ → Event → Reply → PermitFacts → Type 0
IsOwn number (Acquire part bypass wait now) r facts =
    (bypass ≡ false) × (r ≡ reply.Admitted facts.inflight)
    × (facts ≡ permit_of number part (moment now) facts.inflight)
IsOwn number _ r facts = ⊥

-- a permit that lay granted under an earlier number than the call's
abbrev pub WasGranted : ℕ → ℕ → Reply → PermitFacts → Type 0
WasGranted number named r facts =
    (r ≡ reply.Granted facts.part facts.start facts.inflight)
    × (facts.number ≡ named) × (named < number)

-- a waiter that waits no longer has an earlier number; one that is lost has any
abbrev pub IsGivenUp : ℕ → ℕ → Reply → Type 0
IsGivenUp number named reply.TimedOut = named < number
IsGivenUp number named reply.Lost = Unit {0}
IsGivenUp number named _ = ⊥

-- the replies to an ending, a setting, a reset and a look
abbrev pub IsOf : Event → Reply → Type 0
IsOf (End ended outcome now) (reply.Ended promoted) = Unit {0}
IsOf (SetLimit n now) reply.LimitSet = Unit {0}
IsOf (SetLimit n now) (reply.Refused fault) = Unit {0}
IsOf (Reset now) reply.ResetDone = Unit {0}
IsOf (Look part) (reply.Seen limit total waiting granted inflight share) = Unit {0}
IsOf _ _ = ⊥

-- WHAT IS REPLIED AND HANDED OUT, to an event under a number
abbrev pub Answers : ℕ → Event → Reply → Given → Type 0
Answers number (Acquire part bypass wait now) r (permit facts) =
    IsOwn number (Acquire part bypass wait now) r facts
Answers number (Acquire part bypass wait now) r (ticket own) =
    (r ≡ reply.Waiting) × (own ≡ number) × (bypass ≡ false) × (wait ≡ true)
Answers number (Acquire part bypass wait now) r nothing = IsTurnedAway bypass wait r
Answers number (Claim named) r (permit facts) = WasGranted number named r facts
Answers number (Claim named) r (ticket own) =
    (r ≡ reply.StillWaiting) × (own ≡ named) × (named < number)
Answers number (Claim named) r nothing = r ≡ reply.Lost
Answers number (GiveUp named) r (permit facts) = WasGranted number named r facts
Answers number (GiveUp named) r nothing = IsGivenUp number named r
Answers number (End ended outcome now) r nothing = IsOf (End ended outcome now) r
Answers number (SetLimit n now) r nothing = IsOf (SetLimit n now) r
Answers number (Reset now) r nothing = IsOf (Reset now) r
Answers number (Look part) r nothing = IsOf (Look part) r
Answers number _ r _ = ⊥

-- what an event that isn't answered hands back: a claim its ticket; an ending is always answered
abbrev pub HandsBack : Event → Given → Type 0
HandsBack (Claim named) (ticket own) = own ≡ named
HandsBack (Claim named) _ = ⊥
HandsBack (End ended outcome now) _ = ⊥
HandsBack _ nothing = Unit {0}
HandsBack _ _ = ⊥
