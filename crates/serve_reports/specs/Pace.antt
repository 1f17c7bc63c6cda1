-- How often the state is looked at and reported.
use Rattle.std.specs.Prelude.{ℕ, ◌%◌, ◌==◌, ◌&&◌, max, nat_lt, Bool, false, Option, None, Some}
use Rattle.std.specs.Prelude.{option_map}
use Rattle.serve_reports.specs.declared.pace.Pace.{Pace}

-- THE PACE of a report every so many seconds: a look each second
abbrev pub pace_of : Option ℕ → Pace
pace_of seconds = record {
  look_ns = 1000000000;
  looks = option_map (λ n. max n 1) seconds;
}

-- it is reported at each of so many looks
abbrev pub is_due_by : Option ℕ → ℕ → Bool
is_due_by None look = false
is_due_by (Some looks) look = nat_lt 0 looks && (look % looks == 0)

abbrev pub is_due_at : Pace → ℕ → Bool
is_due_at pace look = is_due_by pace.looks look
