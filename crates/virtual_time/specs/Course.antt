-- The course of a trace: its actions, one after the other, the entries that they add, and what is
-- written of them.
use Rattle.std.specs.Prelude.{ℕ, List, [], ◌∷◌, ◌++◌, length, Option, None, Some, slice_get}
use Rattle.limit_laws.specs.Algorithm.{Algorithm}
use Rattle.limiter_core.specs.declared.event.Event.TheVariants.{Acquire, GiveUp}
use Rattle.limiter_core.specs.declared.event.Reply.{Reply}
use Rattle.limiter_core.specs.declared.event.Entry.{Entry}
use Rattle.limiter_core.specs.declared.event.Entry.TheVariants.{Call, Promotion}
use Rattle.gate_journal.specs.Journal.{Journal}
use Rattle.load_driver.specs.declared.asked.SessionCall.{SessionCall}
use Rattle.load_driver.specs.declared.asked.SessionCall.TheVariants.{Event}
use Rattle.load_driver.specs.Replay.{Open, open_of, ending_of, told_of, asked_text}
use Rattle.trace.specs.declared.arrival.Arrival.{Arrival}
use Rattle.virtual_time.specs.declared.action.Kind.{Kind}
use Rattle.virtual_time.specs.declared.action.Kind.TheVariants.{Ending, GivingUp, Arriving}
use Rattle.virtual_time.specs.declared.action.Action.{Action}
use Rattle.virtual_time.specs.declared.action.Step.{Step}
use Rattle.virtual_time.specs.Pending.{IsPending}
use Rattle.virtual_time.specs.Next.{IsNext}

-- what is asked to do an action of an arrival, under the permits that are open
abbrev pub asked_by : Open → Arrival → Action → Kind → SessionCall
asked_by by_number a d Arriving = Event (Acquire a.part a.bypass a.wait d.moment)
asked_by by_number a d GivingUp = Event (GiveUp d.number)
asked_by by_number a d Ending = ending_of (by_number d.number) a.outcome d.moment

abbrev pub asked_of : Open → Arrival → Action → SessionCall
asked_of by_number a d = asked_by by_number a d d.kind

-- what an action is answered: the entries that it adds, and what is written of it
pub record Answered : Type 0 where
  pub told : List Entry
  pub out : List ℕ

-- a limiter, as a function: what an action of an arrival is answered after these entries
abbrev pub Limiter : Type 0
Limiter = List Entry → Arrival → Action → Answered

-- that of a journal, which has all entries so far, however often it rolled since
abbrev pub answered_in : {S : Type 0} → Algorithm S → Journal S → SessionCall → Answered
answered_in rules j asked = record { told = told_of rules j asked; out = asked_text rules j asked }

abbrev pub journal_with : {S : Type 0} → Journal S → List Entry → Journal S
journal_with j entries = record j { entries = entries }

abbrev pub limiter_of : {S : Type 0} → Algorithm S → Journal S → Limiter
limiter_of rules j entries a d =
    answered_in rules (journal_with j entries) (asked_of (open_of (journal_with j entries)) a d)

-- an action of no arrival is answered nothing
abbrev pub answered : Limiter → List Entry → Option Arrival → Action → Answered
answered limiter entries None d = record { told = []; out = [] }
answered limiter entries (Some a) d = limiter entries a d

abbrev pub reply_of : List Entry → Option Reply
reply_of (Call event reply ∷ rest) = Some reply
reply_of (Promotion waiter part start inflight ∷ rest) = None
reply_of [] = None

-- the actions so far, all entries, and all that is written
pub record Course : Type 0 where
  pub steps : List Step
  pub entries : List Entry
  pub out : List ℕ

-- an action that is done after these entries, whose numbers begin at 0
abbrev pub step_of : Action → List Entry → List Entry → Step
step_of d entries told = record { action = d; first = length entries; reply = reply_of told }

-- a course with one action more, by what this is answered
abbrev pub course_with : Course → Action → Answered → Course
course_with c d answer = record {
  steps = c.steps ++ step_of d c.entries answer.told ∷ [];
  entries = c.entries ++ answer.told;
  out = c.out ++ answer.out;
}

module _ (limiter : Limiter) (arrivals : List Arrival) (timeout : ℕ) where
  abbrev pub with_action : Course → Action → Course
  with_action c d = course_with c d (answered limiter c.entries (slice_get arrivals d.place) d)

  -- A COURSE: each action is the next one after those before it
  pub data IsCourse : Course → Type 0 where
    begin : IsCourse (record { steps = []; entries = []; out = [] })
    more : (c : Course) (d : Action) → IsCourse c
        → IsNext (IsPending arrivals timeout c.steps) c.entries d → IsCourse (with_action c d)

  -- A WHOLE COURSE: nothing is pending at its end
  pub record IsWhole (c : Course) : Type 0 where
    pub course : IsCourse c
    pub over : (d : Action) → IsPending arrivals timeout c.steps d → ⊥

-- WHAT IS WRITTEN of a trace: all of its whole course
pub record IsRun (limiter : Limiter) (arrivals : List Arrival) (timeout : ℕ) (out : List ℕ)
    : Type 0 where
  pub steps : List Step
  pub entries : List Entry
  pub whole : IsWhole limiter arrivals timeout
      (record { steps = steps; entries = entries; out = out })
