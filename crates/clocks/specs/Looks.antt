-- Looks at a clock.
use Rattle.std.specs.Prelude.{ℕ, ◌+◌, ◌-◌, ◌^◌, min, Option, None, Some}
use Rattle.std.specs.declared.snapshot.Snapshot.{Snapshot}

-- how many looks there were, the moments that the last two told, the last one as `latest`, and what
-- was known by then, where that is told
pub record Looked (T : Type 0) : Type 0 where
  pub count : ℕ
  pub before : ℕ
  pub latest : ℕ
  pub known : Option T

-- none yet
abbrev pub unlooked : {T : Type 0} → Looked T
unlooked = record { count = 0; before = 0; latest = 0; known = None }

-- ONE LOOK MORE, which tells this moment; the count stays at `u64::MAX`
abbrev pub looked : {T : Type 0} → Looked T → ℕ → Option T → Looked T
looked old moment known = record {
  count = min (old.count + 1) (2 ^ 64 - 1);
  before = old.latest;
  latest = moment;
  known = known;
}

-- what a snapshot shows
abbrev pub shown_in : {T : Type 0} → Option (Snapshot T) → Option T
shown_in None = None
shown_in (Some it) = Some it.value
