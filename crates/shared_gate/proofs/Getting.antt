-- What a call gets, by what its step tells.
use Rattle.std.proofs.Common.{◌≡◌, ℕ, Bool, Result, Ok, Err, refl}
use Rattle.partitions.specs.declared.part.Part.{Part}
use Rattle.limiter_core.specs.declared.event.Event.{Event}
use Rattle.limiter_core.specs.declared.event.Event.TheVariants.{Acquire, End, Claim, GiveUp}
use Rattle.limiter_core.specs.declared.event.Event.TheVariants.{SetLimit, Reset, Look}
use Rattle.limiter_core.specs.declared.event.Outcome.{Outcome}
use Rattle.limiter_core.specs.declared.event.PermitFacts.{PermitFacts}
use Rattle.limiter_core.specs.declared.event.Reply.{Reply}
use Rattle.limiter_core.specs.declared.event.Reply.TheVariants as reply
use Rattle.gate_ledgers.specs.Receipt.{Told}
use Rattle.gate_history.specs.declared.step.Step.{Step}
use Rattle.gate_history.specs.declared.step.Step.TheVariants.{Done, Exhausted, Permit, Returned}
use Rattle.gate_history.specs.declared.step.Step.TheVariants.{Ticket}
use Rattle.gate_history.specs.Answers.{GivesClaimed, GivesGaveUp, GivesGot, GivesNothing}
use Rattle.gate_history.specs.Answers.{TurnsAway, claimed_of, gave_up_of, got_of, let_go}
use Rattle.gate_history.specs.Answers.{turned_away}
use Rattle.gate_history.specs.Handing.{IsChange, told_of}
use Rattle.gate_history.specs.Refusal.{Refusal}
use Rattle.gate_history.specs.Replies.{IsGivenUp, IsTurnedAway}
use Rattle.shared_gate.specs.Calls.{Changes, Claims, Ends, Gets, GivesUp, IsTold, Pass, Tells}

-- an acquire that gets neither a permit nor a ticket
module _ (M : Type 0) (before after : Pass) (part : Part) (bypass wait : Bool) (now : ℕ)
    (told : Told) (is : IsTold before after (Acquire part bypass wait now) told) where
  turned : (r : Reply) → told.reply ≡ r → IsTurnedAway bypass wait r
      → TurnsAway r × Gets {M = M} before after part bypass wait now (turned_away told r)
  turned reply.Bypassed same way = (tt, (is, same, way))
  turned reply.Full same way = (tt, (is, same, way.0, way.1))
  turned reply.BacklogFull same way = (tt, (is, same, way.0, way.1))
  turned (reply.Admitted inflight) same way = absurd way
  turned reply.Waiting same way = absurd way
  turned (reply.Ended promoted) same way = absurd way
  turned (reply.Granted of start inflight) same way = absurd way
  turned reply.StillWaiting same way = absurd way
  turned reply.TimedOut same way = absurd way
  turned reply.Lost same way = absurd way
  turned reply.LimitSet same way = absurd way
  turned (reply.Refused fault) same way = absurd way
  turned reply.ResetDone same way = absurd way
  turned (reply.Seen limit total waiting granted inflight share) same way = absurd way

-- a giving up that gets no permit
module _ (M : Type 0) (before after : Pass) (named : ℕ) (told : Told)
    (is : IsTold before after (GiveUp named) told) where
  gone : (r : Reply) → told.reply ≡ r → IsGivenUp told.number named r
      → GivesUp {M = M} before after named (let_go told r)
  gone reply.TimedOut same way = (is, same, way)
  gone reply.Lost same way = (is, same)
  gone reply.Bypassed same way = absurd way
  gone reply.Full same way = absurd way
  gone reply.BacklogFull same way = absurd way
  gone (reply.Admitted inflight) same way = absurd way
  gone reply.Waiting same way = absurd way
  gone (reply.Ended promoted) same way = absurd way
  gone (reply.Granted of start inflight) same way = absurd way
  gone reply.StillWaiting same way = absurd way
  gone reply.LimitSet same way = absurd way
  gone (reply.Refused fault) same way = absurd way
  gone reply.ResetDone same way = absurd way
  gone (reply.Seen limit total waiting granted inflight share) same way = absurd way

-- an ending, which is always answered
abbrev pub EndsBy : Pass → Pass → PermitFacts → Outcome → ℕ → Result Told Refusal → Type 0
EndsBy before after permit outcome now (Ok told) = Ends before after permit outcome now told
EndsBy before after permit outcome now (Err refusal) = ⊥

module _ {M : Type 0} (before after : Pass) where
  -- an acquire
  pub gets : (part : Part) (bypass wait : Bool) (now : ℕ) (step : Step M)
      → Tells before after (Acquire part bypass wait now) step
      → GivesGot step × Gets before after part bypass wait now (got_of step)
  gets part bypass wait now (Permit told permit) did = (tt, did)
  gets part bypass wait now (Ticket told ticket) did =
      (tt, (did.0, did.1.0, did.1.1, did.1.2, did.1.3))
  gets part bypass wait now (Done told) did =
      turned M before after part bypass wait now told did.0 told.reply refl did.1
  gets part bypass wait now (Exhausted refusal) did = (tt, did.0)
  gets part bypass wait now (Returned refusal ticket) did = absurd did.1

  -- a claim
  pub claims : (named : ℕ) (step : Step M) → Tells before after (Claim named) step
      → GivesClaimed step × Claims before after named (claimed_of step)
  claims named (Permit told permit) did = (tt, did)
  claims named (Ticket told ticket) did = (tt, (did.0, did.1.0, did.1.1, did.1.2))
  claims named (Done told) did = (tt, did)
  claims named (Returned refusal ticket) did = (tt, did)
  claims named (Exhausted refusal) did = absurd did.1

  -- a giving up
  pub gives_up : (named : ℕ) (step : Step M) → Tells before after (GiveUp named) step
      → GivesGaveUp step × GivesUp before after named (gave_up_of step)
  gives_up named (Permit told permit) did = (tt, did)
  gives_up named (Done told) did = (tt, gone M before after named told did.0 told.reply refl did.1)
  gives_up named (Exhausted refusal) did = (tt, did.0)
  gives_up named (Ticket told ticket) did = absurd did.1
  gives_up named (Returned refusal ticket) did = absurd did.1

  -- an ending, which is always answered
  pub ends : (permit : PermitFacts) (outcome : Outcome) (now : ℕ) (step : Step M)
      → Tells before after (End permit outcome now) step
      → GivesNothing step × EndsBy before after permit outcome now (told_of step)
  ends permit outcome now (Done told) did = (tt, did)
  ends permit outcome now (Permit told other) did = absurd did.1
  ends permit outcome now (Ticket told ticket) did = absurd did.1
  ends permit outcome now (Exhausted refusal) did = absurd did.1
  ends permit outcome now (Returned refusal ticket) did = absurd did.1

  -- a setting, a reset and a look
  pub changes : (e : Event) → IsChange e → (step : Step M) → Tells before after e step
      → GivesNothing step × Changes before after e (told_of step)
  changes (SetLimit n now) is (Done told) did = (tt, did)
  changes (SetLimit n now) is (Exhausted refusal) did = (tt, did.0)
  changes (SetLimit n now) is (Permit told permit) did = absurd did.1
  changes (SetLimit n now) is (Ticket told ticket) did = absurd did.1
  changes (SetLimit n now) is (Returned refusal ticket) did = absurd did.1
  changes (Reset now) is (Done told) did = (tt, did)
  changes (Reset now) is (Exhausted refusal) did = (tt, did.0)
  changes (Reset now) is (Permit told permit) did = absurd did.1
  changes (Reset now) is (Ticket told ticket) did = absurd did.1
  changes (Reset now) is (Returned refusal ticket) did = absurd did.1
  changes (Look part) is (Done told) did = (tt, did)
  changes (Look part) is (Exhausted refusal) did = (tt, did.0)
  changes (Look part) is (Permit told permit) did = absurd did.1
  changes (Look part) is (Ticket told ticket) did = absurd did.1
  changes (Look part) is (Returned refusal ticket) did = absurd did.1
  changes (Acquire part bypass wait now) is step did = absurd is
  changes (End ended outcome now) is step did = absurd is
  changes (Claim n) is step did = absurd is
  changes (GiveUp n) is step did = absurd is
