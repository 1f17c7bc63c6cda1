-- When reports come.
use Rattle.std.specs.Prelude.{ℕ, ◌+◌, ◌-◌, ◌^◌, min, nat_le, if◌then◌else◌}

-- so long behind a moment, up to the greatest one
abbrev pub later : ℕ → ℕ → ℕ
later moment every = min (moment + every) (2 ^ 64 - 1)

-- the report behind the last one: so long after it, or after now where that moment has gone by
abbrev pub next_report : ℕ → ℕ → ℕ → ℕ
next_report last every now =
    if nat_le (later last every) now then later now every else later last every
