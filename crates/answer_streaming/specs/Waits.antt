-- For how long the client was waited for.
use Rattle.std.specs.Prelude.{◌≡◌, ◌≤◌, ◌+◌, ◌-◌, ◌^◌, ℕ, min, nat_lt, Some, None, if◌then◌else◌}
use Rattle.clocks.specs.Looks.{Looked, looked}
use Rattle.limiter_core.specs.declared.event.Outcome.{Outcome}
use Rattle.limiter_core.specs.declared.event.Outcome.TheVariants.{Success, Ignored}
use Rattle.answer_streaming.specs.declared.progress.Progress.{Progress}
use Rattle.answer_streaming.specs.Progress.{progress}

-- the longest wait for a client, in nanoseconds, whose answer's time is measured: 100 ms
abbrev pub most_wait : ℕ
most_wait = 100000000

-- A SLOW READER TEACHES NOTHING: if the client was waited for longer than that in all, a success
-- isn't measured
abbrev pub patient : Outcome → ℕ → Outcome
patient Success waited = if nat_lt most_wait waited then Ignored else Success
patient other waited = other

-- the wait from one moment to another is added, up to the greatest number
abbrev pub wait_more : ℕ → ℕ → ℕ → ℕ
wait_more waited before after = min (waited + (after - before)) (2 ^ 64 - 1)

-- ONE LOOK at this moment, after so many reads and writes
pub record IsLook {T : Type 0} (gives : Progress → T → Type 0) (reads writes now : ℕ)
    (old new : Looked T) : Type 0 where
  pub known : T
  pub given : gives (progress reads writes None) known
  pub since : old.latest ≤ now
  pub looks : new ≡ looked old now (Some known)

-- ONE WAIT: a look that knows how many writes were made before, and one that knows how many were
-- made then
pub record WaitsOnce {T : Type 0} (gives : Progress → T → Type 0) (from to waited all : ℕ)
    (old new : Looked T) : Type 0 where
  pub before : ℕ
  pub after : ℕ
  pub first : ℕ
  pub last : ℕ
  pub mid : Looked T
  pub opens : IsLook gives first from before old mid
  pub closes : IsLook gives last to after mid new
  pub more : all ≡ wait_more waited before after

-- ALL WAITS from so many writes on: each write lies within one of them
pub data Waits {T : Type 0} (gives : Progress → T → Type 0) (from : ℕ) (old : Looked T)
    : ℕ → ℕ → Looked T → Type 0 where
  none : Waits gives from old from 0 old
  more : (writes to waited all : ℕ) (mid new : Looked T) → Waits gives from old writes waited mid
      → WaitsOnce gives writes to waited all mid new → Waits gives from old to all new
