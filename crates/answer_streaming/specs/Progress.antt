-- How far an answer was passed on, as a look at the clock knows it.
use Rattle.std.specs.Prelude.{ℕ, Option}
use Rattle.limiter_core.specs.declared.event.Outcome.{Outcome}
use Rattle.answer_streaming.specs.declared.progress.Progress.{Progress}

-- after so many reads and writes; with this outcome, if the permit is ended then
abbrev pub progress : ℕ → ℕ → Option Outcome → Progress
progress reads writes outcome = record { reads = reads; writes = writes; outcome = outcome }

abbrev pub reads_in : Progress → ℕ
reads_in it = it.reads

abbrev pub writes_in : Progress → ℕ
writes_in it = it.writes

abbrev pub outcome_in : Progress → Option Outcome
outcome_in it = it.outcome
