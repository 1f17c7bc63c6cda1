-- What happens often, told seldom.
use Rattle.std.specs.Prelude.{ℕ, ◌+◌, ◌-◌, ◌^◌, min, nat_le, Bool, false, true, Option, None, Some}
use Rattle.std.specs.Prelude.{if◌then◌else◌}
use Rattle.serve_reports.specs.declared.spell.RateLimitedLog.{RateLimitedLog}

-- the least time from one telling to the next, in nanoseconds
abbrev pub spell_length : ℕ
spell_length = 10000000000

-- it is told at this moment: it never was, or was so long ago
abbrev pub is_due : Option ℕ → ℕ → Bool
is_due None now = true
is_due (Some last) now = nat_le spell_length (now - last)

-- a minute is over since something was told, or it never was
abbrev pub is_minute_over : Option ℕ → ℕ → Bool
is_minute_over None now = true
is_minute_over (Some last) now = nat_le 60000000000 (now - last)

-- one more, up to the greatest count
abbrev pub once_more : ℕ → ℕ
once_more count = min (count + 1) (2 ^ 64 - 1)

-- HOW OFTEN IS TOLD where it happens at this moment, if it is told
abbrev pub told : RateLimitedLog → ℕ → Option ℕ
told spell now = if is_due spell.last now then Some (once_more spell.count) else None

-- what is kept then
abbrev pub noted : RateLimitedLog → ℕ → RateLimitedLog
noted spell now =
    if is_due spell.last now
    then record { last = Some now; seen = Some now; count = 0; total = once_more spell.total }
    else record {
      last = spell.last;
      seen = Some now;
      count = once_more spell.count;
      total = once_more spell.total;
    }

-- it is over at this moment: it happened so long ago, and its end wasn't told since
abbrev pub is_over : Option ℕ → ℕ → Bool
is_over None now = false
is_over (Some seen) now = nat_le spell_length (now - seen)

-- HOW OFTEN IT HAPPENED since it was last told, if it is over at this moment
abbrev pub ended : RateLimitedLog → ℕ → Option ℕ
ended spell now = if is_over spell.seen now then Some spell.count else None

-- what is kept then
abbrev pub rested : RateLimitedLog → ℕ → RateLimitedLog
rested spell now =
    if is_over spell.seen now
    then record { last = spell.last; seen = None; count = 0; total = spell.total }
    else spell
