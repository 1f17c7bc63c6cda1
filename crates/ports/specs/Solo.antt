-- A port over a book of its own, and its steps.
use Rattle.std.specs.Prelude.{◌≡◌, ℕ, Bool, List, [], ◌∷◌, length, true, false, Some, All}
use Rattle.std.specs.Prelude.{Result, Ok, Err}
use Rattle.limit_laws.specs.Algorithm.{Algorithm}
use Rattle.limit_laws.specs.Facts.{moment}
use Rattle.partitions.specs.declared.part.Part.{Part}
use Rattle.limiter_core.specs.declared.event.Event.{Event}
use Rattle.limiter_core.specs.declared.event.Event.TheVariants.{Acquire, End, GiveUp}
use Rattle.limiter_core.specs.declared.event.Outcome.{Outcome}
use Rattle.limiter_core.specs.declared.event.PermitFacts.{PermitFacts}
use Rattle.limiter_core.specs.declared.event.Reply.{Reply}
use Rattle.limiter_core.specs.declared.event.Reply.TheVariants as reply
use Rattle.limiter_core.specs.declared.event.Entry.{Entry}
use Rattle.limiter_core.specs.declared.event.Entry.TheVariants.{Call}
use Rattle.limiter_core.specs.History.{permit_of}
use Rattle.limiter_core.specs.Answer.{waits}
use Rattle.gate_journal.specs.Journal.{Journal, image, is_over}
use Rattle.gate_ledgers.specs.Receipt.{Told}
use Rattle.gate_history.specs.declared.answers.GaveUp.{GaveUp}
use Rattle.gate_history.specs.declared.answers.GaveUp.TheVariants as gave_up
use Rattle.gate_history.specs.declared.answers.Got.{Got}
use Rattle.gate_history.specs.declared.answers.Got.TheVariants as got
use Rattle.gate_history.specs.declared.step.Step.{Step}
use Rattle.gate_history.specs.Book.{Book}
use Rattle.gate_history.specs.Handing.{Given, given_by, told_of}
use Rattle.gate_history.specs.Refusal.{Refusal}
use Rattle.gate_history.specs.Replies.{Answers, HandsBack}
use Rattle.gate_port.specs.Ending.{IsPromotion}
use Rattle.gate_port.specs.Shown.{Adds, Shown, next_of}

-- what a journal shows
abbrev pub shown_of : {S : Type 0} → Journal S → Shown
shown_of j = record {
  base = j.opening.next;
  entries = j.entries;
  kept = j.kept;
  is_rolling = j.is_rolling;
}

-- a port: its book, and how many calls were made by its pass
pub record Solo (S : Type 0) : Type 0 where
  pub book : Book S
  pub calls : ℕ

-- the events that a port asks for
abbrev pub IsOfPort : Event → Type 0
IsOfPort (Acquire part bypass wait now) = Unit {0}
IsOfPort (End permit outcome now) = Unit {0}
IsOfPort (GiveUp number) = Unit {0}
IsOfPort _ = ⊥

-- the entries of an event with this reply: an ending's may be followed by promotions
abbrev pub Records : Event → Reply → List Entry → Type 0
Records (End permit outcome now) r added =
    (promotions : List Entry) × All IsPromotion promotions
    × (r ≡ reply.Ended (length promotions))
    × (added ≡ Call (End permit outcome now) r ∷ promotions)
Records e r added = added ≡ Call e r ∷ []

module _ {S : Type 0} (rules : Algorithm S) where
  -- a number waits
  abbrev pub Waits : ℕ → Journal S → Type 0
  Waits number j = waits (image rules j) number ≡ true

  -- an acquire that is told to wait does
  abbrev pub Queues : ℕ → Reply → Journal S → Type 0
  Queues number reply.Waiting j = Waits number j
  Queues number _ j = Unit {0}

  -- an ending is always answered, and so is the giving up of one who waits
  abbrev pub MayExhaust : Event → Journal S → Type 0
  MayExhaust (End permit outcome now) j = ⊥
  MayExhaust (GiveUp number) j = Waits number j → ⊥
  MayExhaust _ j = Unit {0}

  -- DONE, where the history isn't exhausted: the entries of the event are added
  pub record IsDone (old new : Journal S) (e : Event) (told : Told) : Type 0 where
    pub served : is_over rules old e ≡ false
    pub adds : Adds (Some (shown_of old)) (Some (shown_of new))
        (λ before added. (told.number ≡ next_of before) × Records e told.reply added)
    pub queues : Queues told.number told.reply new

  -- EXHAUSTED, where the history is: nothing changes
  pub record IsExhausted (old new : Journal S) (e : Event) : Type 0 where
    pub over : is_over rules old e ≡ true
    pub same : new ≡ old
    pub may : MayExhaust e old

  -- a step of an event, by what the caller is told and given
  abbrev pub MakesOf : Journal S → Journal S → Event → Result Told Refusal → Given → Type 0
  MakesOf old new e (Ok told) got =
      IsDone old new e told × Answers told.number e told.reply got
  MakesOf old new e (Err refusal) got = IsExhausted old new e × HandsBack e got

  abbrev pub Makes : {N : Type 0} → Journal S → Journal S → Event → Step N → Type 0
  Makes old new e step = MakesOf old new e (told_of step) (given_by step)

  -- an acquire
  abbrev pub Gets : {N : Type 0} → Journal S → Journal S → Part → Bool → Bool → ℕ → Got N → Type 0
  Gets old new part bypass wait now (got.Admitted told permit) =
      IsDone old new (Acquire part bypass wait now) told
      × (told.reply ≡ reply.Admitted permit.inflight)
      × (permit ≡ permit_of told.number part (moment now) permit.inflight)
  Gets old new part bypass wait now (got.Bypassed told) =
      IsDone old new (Acquire part bypass wait now) told × (told.reply ≡ reply.Bypassed)
  Gets old new part bypass wait now (got.Full told) =
      IsDone old new (Acquire part bypass wait now) told × (told.reply ≡ reply.Full)
  Gets old new part bypass wait now (got.BacklogFull told) =
      IsDone old new (Acquire part bypass wait now) told × (told.reply ≡ reply.BacklogFull)
  Gets old new part bypass wait now (got.Waiting told ticket) =
      IsDone old new (Acquire part bypass wait now) told × (told.reply ≡ reply.Waiting)
      × (ticket ≡ told.number) × Waits told.number new
  Gets old new part bypass wait now (got.Exhausted refusal) =
      IsExhausted old new (Acquire part bypass wait now)

  -- a giving up
  abbrev pub GivesUp : {N : Type 0} → Journal S → Journal S → ℕ → GaveUp N → Type 0
  GivesUp old new named (gave_up.Granted told permit) =
      IsDone old new (GiveUp named) told
      × (told.reply ≡ reply.Granted permit.part permit.start permit.inflight)
      × (permit ≡ permit_of named permit.part permit.start permit.inflight)
  GivesUp old new named (gave_up.TimedOut told) =
      IsDone old new (GiveUp named) told × (told.reply ≡ reply.TimedOut)
  GivesUp old new named (gave_up.Lost told) =
      IsDone old new (GiveUp named) told × (told.reply ≡ reply.Lost)
  GivesUp old new named (gave_up.Exhausted refusal) = IsExhausted old new (GiveUp named)

  -- an ending, which is always answered
  abbrev pub Ends : Journal S → Journal S → PermitFacts → Outcome → ℕ → Result Told Refusal → Type 0
  Ends old new permit outcome now (Ok told) = IsDone old new (End permit outcome now) told
  Ends old new permit outcome now (Err refusal) = ⊥
