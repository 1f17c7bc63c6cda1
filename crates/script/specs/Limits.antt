-- How many may wait and be kept, and how long a caller waits, in numbers.
use Rattle.std.specs.Prelude.{ℕ}

-- how many may wait where no line says it
abbrev pub usual_backlog : ℕ
usual_backlog = 100

-- how long a caller of a trace waits where no line says it, in nanoseconds: one second
abbrev pub usual_timeout : ℕ
usual_timeout = 1000000000

-- the most entries of a history that may be kept
abbrev pub most_kept : ℕ
most_kept = 1000000
