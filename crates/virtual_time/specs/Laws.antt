-- What holds of the definitions alone.
use Rattle.std.specs.Prelude.{◌≡◌, ℕ, List}
use Rattle.trace.specs.declared.arrival.Arrival.{Arrival}
use Rattle.virtual_time.specs.Course.{Limiter, Course, IsWhole}

-- a trace has one whole course at most, whatever the limiter
abbrev pub OneCourse : Type 0
OneCourse = (limiter : Limiter) (arrivals : List Arrival) (timeout : ℕ) (c e : Course)
    → IsWhole limiter arrivals timeout c → IsWhole limiter arrivals timeout e → c ≡ e
