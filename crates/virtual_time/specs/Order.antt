-- Which of two actions comes first.
use Rattle.std.specs.Prelude.{ℕ, Bool}
use Rattle.std.specs.Ordering.{nat_cmp, ordering_then, is_lt}
use Rattle.virtual_time.specs.declared.action.Kind.{Kind}
use Rattle.virtual_time.specs.declared.action.Kind.TheVariants.{Ending, GivingUp, Arriving}
use Rattle.virtual_time.specs.declared.action.Action.{Action}

-- of one moment, endings come first, and arrivals last
abbrev pub kind_rank : Kind → ℕ
kind_rank Ending = 0
kind_rank GivingUp = 1
kind_rank Arriving = 2

-- by moment, then by kind, then by place in the trace
abbrev pub is_before : Action → Action → Bool
is_before a b = is_lt (ordering_then (nat_cmp a.moment b.moment)
    (ordering_then (nat_cmp (kind_rank a.kind) (kind_rank b.kind)) (nat_cmp a.place b.place)))
