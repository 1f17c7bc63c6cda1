-- The kinds of entries that are counted.
use Rattle.std.specs.Prelude.{Bool, true, false}
use Rattle.limiter_core.specs.declared.event.Event.{Event}
use Rattle.limiter_core.specs.declared.event.Event.TheVariants.{End}
use Rattle.limiter_core.specs.declared.event.Outcome.{Outcome}
use Rattle.limiter_core.specs.declared.event.Outcome.TheVariants as outcome
use Rattle.limiter_core.specs.declared.event.Entry.{Entry}
use Rattle.limiter_core.specs.Counting.{is_admitted, is_bypassed, is_full, is_backlog_full, is_waiting, is_promoted, is_timed_out, is_success, is_ignored, is_dropped}
use Rattle.limiter_core.specs.History.{is_call}
use Rattle.load_run.specs.declared.counting.Kind.{Kind}
use Rattle.load_run.specs.declared.counting.Kind.TheVariants.{Called, Admitted, Bypassed, Full, BacklogFull, Waiting, Promoted, TimedOut, Success, Ignored, Dropped}

-- an entry is of a kind
abbrev pub is_of : Kind → Entry → Bool
is_of Called = is_call
is_of Admitted = is_admitted
is_of Bypassed = is_bypassed
is_of Full = is_full
is_of BacklogFull = is_backlog_full
is_of Waiting = is_waiting
is_of Promoted = is_promoted
is_of TimedOut = is_timed_out
is_of Success = is_success
is_of Ignored = is_ignored
is_of Dropped = is_dropped

-- an event is an ending with this outcome
abbrev pub is_outcome : Outcome → Outcome → Bool
is_outcome outcome.Success outcome.Success = true
is_outcome outcome.Ignored outcome.Ignored = true
is_outcome outcome.Dropped outcome.Dropped = true
is_outcome _ _ = false

abbrev pub ends_in : Outcome → Event → Bool
ends_in wanted (End permit own now) = is_outcome wanted own
ends_in wanted _ = false
