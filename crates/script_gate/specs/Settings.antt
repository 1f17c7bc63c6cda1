-- The journal of the gate that the settings of a script ask for.
use Rattle.std.specs.Prelude.{ℕ}
use Rattle.limit_kinds.specs.declared.kinds.AnyLimit.{AnyLimit}
use Rattle.limiter_core.specs.Limiter.{unasked}
use Rattle.gate_journal.specs.Journal.{Journal, opened}
use Rattle.script.specs.Settings.{SettingFacts, limit_of, room_of, promote_of, kept_of}

-- the journal of a limiter that the settings make: fixed at n where they give no limit, with so
-- many entries kept where they don't say how many, and rolling where they say so
abbrev pub journal_of : ℕ → ℕ → SettingFacts → Journal AnyLimit
journal_of n kept s =
    opened (unasked s.rows (room_of s) (promote_of s) (limit_of n s)) (kept_of kept s) s.is_rolling
