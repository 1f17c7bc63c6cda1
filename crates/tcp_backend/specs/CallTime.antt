-- The time of a call.
use Rattle.std.specs.Prelude.{◌≡◌, ⊤, ℕ, Bool, false, nat_le, Option, None, Some}
use Rattle.tcp_backend.specs.declared.call_time.CallTime.{CallTime}
use Rattle.timed_io.specs.declared.countdown.Countdown.{Countdown}
use Rattle.timed_io.specs.Time.{deadline_of, looked_of}
use Rattle.timed_io.specs.Timed.{HasPassed}

-- the moment by which it is to have its whole answer, where there is one
abbrev pub call_deadline : {C : Type 0} → CallTime C → Option ℕ
call_deadline call = call.deadline

-- the deadline was reached, where the clock told this
abbrev pub is_over : Option ℕ → ℕ → Bool
is_over None looked = false
is_over (Some deadline) looked = nat_le deadline looked

-- the deadline of a countdown, where there is one
abbrev pub countdown_to : {C : Type 0} → Option (Countdown C) → Option ℕ
countdown_to None = None
countdown_to (Some time) = deadline_of time

-- a deadline that stands is the same as before
abbrev pub Stands : Option ℕ → Option ℕ → Type 0
Stands None new = ⊤
Stands (Some deadline) new = new ≡ Some deadline

-- what the clock told when it was last looked at, where there is a countdown
abbrev pub looked_at : {C : Type 0} → Option (Countdown C) → ℕ
looked_at None = 0
looked_at (Some time) = looked_of time

-- there is a countdown, and the last look found its deadline reached
abbrev pub IsLate : {C : Type 0} → Option (Countdown C) → Type 0
IsLate None = ⊥
IsLate (Some time) = HasPassed time
