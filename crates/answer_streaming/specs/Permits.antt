-- How a permit is ended.
use Rattle.std.specs.Prelude.{◌≡◌, ◌≤◌, ℕ, Option, Some}
use Rattle.clocks.specs.Looks.{Looked, looked}
use Rattle.gate_port.specs.Ending.{Ends}
use Rattle.gate_port.specs.Log.{EndsIn, Known}
use Rattle.gate_port.specs.Shown.{Shown}
use Rattle.limiter_core.specs.declared.event.Outcome.{Outcome}
use Rattle.limiter_core.specs.declared.event.Outcome.TheVariants.{Ignored, Dropped}
use Rattle.limiter_core.specs.declared.event.PermitFacts.{PermitFacts}
use Rattle.answer_streaming.specs.declared.ended.End.{End}
use Rattle.answer_streaming.specs.declared.ended.End.TheVariants as end
use Rattle.answer_streaming.specs.declared.ended.Passed.{Passed}
use Rattle.answer_streaming.specs.declared.ended.Passed.TheVariants as passed
use Rattle.answer_streaming.specs.declared.progress.Progress.{Progress}
use Rattle.answer_streaming.specs.declared.taken.Taken.{Taken}
use Rattle.answer_streaming.specs.declared.taken.Taken.TheVariants as taken
use Rattle.answer_streaming.specs.Progress.{progress}
use Rattle.answer_streaming.specs.Waits.{Waits, patient}

-- THE OUTCOME of a permit: the one that a read body has; a body that broke is dropped, and nothing
-- is known if the client couldn't be written to before its end
abbrev pub outcome_by : Outcome → End → Outcome
outcome_by read end.Whole = read
outcome_by read end.Unwritten = read
outcome_by read (end.Broken f) = Dropped
outcome_by read end.Left = Ignored

-- if the client was waited for so long, a read body that was streamed has the patient outcome
abbrev pub outcome_streamed : Outcome → End → ℕ → Outcome
outcome_streamed read x waited = outcome_by (patient read waited) x

-- and one that wasn't streamed has its own
abbrev pub outcome_of : Outcome → Passed → ℕ → Outcome
outcome_of read (passed.Read body) waited = read
outcome_of read (passed.Unread f) waited = Dropped
outcome_of read (passed.Streamed x) waited = outcome_streamed read x waited

-- what is seen of a gate: its entries if they are shown, what is known of its log, and the looks at
-- the clock
pub record GateSeen (T : Type 0) : Type 0 where
  pub shown : Option Shown
  pub known : Option Known
  pub looks : Looked T

-- ENDED: the permit is ended once with this outcome, at a moment that is looked up once it is known
-- how many reads and writes were made
pub record IsEnded {T : Type 0} (gives : Progress → T → Type 0) (facts : PermitFacts)
    (outcome : Outcome) (reads writes : ℕ) (old new : GateSeen T) : Type 0 where
  pub now : ℕ
  pub known : T
  pub given : gives (progress reads writes (Some outcome)) known
  pub looked : new.looks ≡ looked old.looks now (Some known)
  pub since : old.looks.latest ≤ now
  pub entries : Ends facts outcome now old.shown new.shown
  pub log : EndsIn facts outcome now old.known new.known

-- ENDED AFTER WAITS: the client is waited for as some writes are made, and then the permit is
-- ended, with the outcome that so long a wait gives
pub record IsEndedAfter {T : Type 0} (gives : Progress → T → Type 0) (facts : PermitFacts)
    (outcome : ℕ → Outcome) (reads from : ℕ) (old new : GateSeen T) : Type 0 where
  pub waited : ℕ
  pub writes : ℕ
  pub mid : Looked T
  pub waits : Waits gives from old.looks writes waited mid
  pub ended : IsEnded gives facts (outcome waited) reads writes
      (record { shown = old.shown; known = old.known; looks = mid }) new

-- as a piece is read after so many reads and writes, the permit is ended by the last piece, with
-- the outcome of a read body, or by a fault; else the same permit is held, and the gate is as it
-- was
module _ {M T : Type 0} (gives : Progress → T → Type 0) (facts : M → PermitFacts) (permit : M)
    (read : Outcome) (reads writes : ℕ) (old new : GateSeen T) where
  abbrev pub EndsBy : Taken M → Type 0
  EndsBy (taken.More held piece) = (facts held ≡ facts permit) × (new ≡ old)
  EndsBy (taken.Last piece) = IsEnded gives (facts permit) read reads writes old new
  EndsBy (taken.Broken f) = IsEnded gives (facts permit) Dropped reads writes old new
