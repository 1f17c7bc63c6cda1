-- What a call of a port gets, by what its step makes.
use Rattle.std.proofs.Common.{◌≡◌, ℕ, Bool, ap, refl, subst}
use Rattle.limit_laws.specs.Algorithm.{Algorithm}
use Rattle.partitions.specs.declared.part.Part.{Part}
use Rattle.limiter_core.specs.declared.event.Event.TheVariants.{Acquire, End, GiveUp}
use Rattle.limiter_core.specs.declared.event.Outcome.{Outcome}
use Rattle.limiter_core.specs.declared.event.PermitFacts.{PermitFacts}
use Rattle.limiter_core.specs.declared.event.Reply.{Reply}
use Rattle.limiter_core.specs.declared.event.Reply.TheVariants as reply
use Rattle.limiter_core.specs.History.{permit_of}
use Rattle.gate_journal.specs.Journal.{Journal}
use Rattle.gate_ledgers.specs.Receipt.{Told}
use Rattle.gate_history.specs.declared.step.Step.{Step}
use Rattle.gate_history.specs.declared.step.Step.TheVariants.{Done, Exhausted, Permit, Returned}
use Rattle.gate_history.specs.declared.step.Step.TheVariants.{Ticket}
use Rattle.gate_history.specs.Answers.{GivesGaveUp, GivesGot, GivesNothing, TurnsAway}
use Rattle.gate_history.specs.Answers.{gave_up_of, got_of, let_go, turned_away}
use Rattle.gate_history.specs.Handing.{told_of}
use Rattle.gate_history.specs.Replies.{IsGivenUp, IsTurnedAway}
use Rattle.ports.specs.Solo.{Ends, Gets, GivesUp, IsDone, Makes, Queues}

-- an acquire that gets neither a permit nor a ticket
module _ (N : Type 0) {S : Type 0} (rules : Algorithm S) (old new : Journal S) (part : Part)
    (bypass wait : Bool) (now : ℕ) (told : Told)
    (is : IsDone rules old new (Acquire part bypass wait now) told) where
  turned : (r : Reply) → told.reply ≡ r → IsTurnedAway bypass wait r
      → TurnsAway r × Gets rules {N = N} old new part bypass wait now (turned_away told r)
  turned reply.Bypassed same way = (tt, (is, same))
  turned reply.Full same way = (tt, (is, same))
  turned reply.BacklogFull same way = (tt, (is, same))
  turned (reply.Admitted inflight) same way = absurd way
  turned reply.Waiting same way = absurd way
  turned (reply.Ended promoted) same way = absurd way
  turned (reply.Granted of start inflight) same way = absurd way
  turned reply.StillWaiting same way = absurd way
  turned reply.TimedOut same way = absurd way
  turned reply.Lost same way = absurd way
  turned reply.LimitSet same way = absurd way
  turned (reply.Refused fault) same way = absurd way
  turned reply.ResetDone same way = absurd way
  turned (reply.Seen limit total waiting granted inflight share) same way = absurd way

-- a giving up that gets no permit
module _ (N : Type 0) {S : Type 0} (rules : Algorithm S) (old new : Journal S) (named : ℕ)
    (told : Told) (is : IsDone rules old new (GiveUp named) told) where
  gone : (r : Reply) → told.reply ≡ r → IsGivenUp told.number named r
      → GivesUp rules {N = N} old new named (let_go told r)
  gone reply.TimedOut same way = (is, same)
  gone reply.Lost same way = (is, same)
  gone reply.Bypassed same way = absurd way
  gone reply.Full same way = absurd way
  gone reply.BacklogFull same way = absurd way
  gone (reply.Admitted inflight) same way = absurd way
  gone reply.Waiting same way = absurd way
  gone (reply.Ended promoted) same way = absurd way
  gone (reply.Granted of start inflight) same way = absurd way
  gone reply.StillWaiting same way = absurd way
  gone reply.LimitSet same way = absurd way
  gone (reply.Refused fault) same way = absurd way
  gone reply.ResetDone same way = absurd way
  gone (reply.Seen limit total waiting granted inflight share) same way = absurd way

module _ {S N : Type 0} (rules : Algorithm S) (old new : Journal S) where
  -- an acquire
  pub gets : (part : Part) (bypass wait : Bool) (now : ℕ) (step : Step N)
      → Makes rules old new (Acquire part bypass wait now) step
      → GivesGot step × Gets rules old new part bypass wait now (got_of step)
  gets part bypass wait now (Permit told permit) did = (tt, (did.0, did.1.1, did.1.2))
  gets part bypass wait now (Ticket told ticket) did = (
    tt,
    (
      did.0,
      did.1.0,
      did.1.1,
      subst (λ (r : Reply). Queues rules told.number r new) did.1.0 did.0.queues,
    ),
  )
  gets part bypass wait now (Done told) did =
      turned N rules old new part bypass wait now told did.0 told.reply refl did.1
  gets part bypass wait now (Exhausted refusal) did = (tt, did.0)
  gets part bypass wait now (Returned refusal ticket) did = absurd did.1

  -- a giving up
  pub gives_up : (named : ℕ) (step : Step N) → Makes rules old new (GiveUp named) step
      → GivesGaveUp step × GivesUp rules old new named (gave_up_of step)
  gives_up named (Permit told permit) did = (
    tt,
    (
      did.0,
      did.1.0,
      ap (λ (n : ℕ). permit_of n permit.part permit.start permit.inflight) did.1.1,
    ),
  )
  gives_up named (Done told) did =
      (tt, gone N rules old new named told did.0 told.reply refl did.1)
  gives_up named (Exhausted refusal) did = (tt, did.0)
  gives_up named (Ticket told ticket) did = absurd did.1
  gives_up named (Returned refusal ticket) did = absurd did.1

  -- an ending
  pub ends : (permit : PermitFacts) (outcome : Outcome) (now : ℕ) (step : Step N)
      → Makes rules old new (End permit outcome now) step
      → GivesNothing step × Ends rules old new permit outcome now (told_of step)
  ends permit outcome now (Done told) did = (tt, did.0)
  ends permit outcome now (Permit told other) did = absurd did.1
  ends permit outcome now (Ticket told ticket) did = absurd did.1
  ends permit outcome now (Exhausted refusal) did = absurd did.1
  ends permit outcome now (Returned refusal ticket) did = absurd did.1
