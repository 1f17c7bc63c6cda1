-- How old permits are that haven't ended.
use Rattle.std.specs.Prelude.{ℕ, ◌+◌, ◌-◌, ◌/◌, ◌^◌, min, max, nat_le, if◌then◌else◌}
use Rattle.serve_reports.specs.declared.outstanding.Outstanding.{Outstanding}

-- whole seconds from a moment to another, both in nanoseconds
abbrev pub seconds_from : ℕ → ℕ → ℕ
seconds_from since now = (now - since) / 1000000000

-- none is out
abbrev pub nothing_out : Outstanding
nothing_out = record { oldest_seconds = 0; old = 0 }

-- ONE MORE IS OUT since a moment: the oldest is the one that is out for longest, and one is old
-- after a minute
abbrev pub one_more : Outstanding → ℕ → ℕ → Outstanding
one_more out since now = record {
  oldest_seconds = max out.oldest_seconds (seconds_from since now);
  old = if nat_le 60 (seconds_from since now) then min (out.old + 1) (2 ^ 32 - 1) else out.old;
}
