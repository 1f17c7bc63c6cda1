-- What is pending: of each arrival at most one action, read off the steps that were done at its
-- place.
use Rattle.std.specs.Prelude.{◌≡◌, ℕ, ◌+◌, ◌==◌, List, Option, None, Some, option_and_then}
use Rattle.std.specs.Prelude.{slice_get, filter}
use Rattle.std.specs.List.{last_or}
use Rattle.limit_laws.specs.Facts.{moment}
use Rattle.limiter_core.specs.declared.event.Reply.{Reply}
use Rattle.limiter_core.specs.declared.event.Reply.TheVariants.{Admitted, Waiting, Granted}
use Rattle.trace.specs.declared.arrival.Arrival.{Arrival}
use Rattle.virtual_time.specs.declared.action.Kind.{Kind}
use Rattle.virtual_time.specs.declared.action.Kind.TheVariants.{Ending, GivingUp, Arriving}
use Rattle.virtual_time.specs.declared.action.Action.{Action}
use Rattle.virtual_time.specs.declared.action.Step.{Step}

-- the three actions of an arrival: it comes at its moment, gives up after the timeout, ends after
-- its duration from when it got its permit
abbrev pub arriving : Arrival → ℕ → Action
arriving a place = record { moment = moment a.at; kind = Arriving; place = place; number = 0 }

abbrev pub giving_up : ℕ → Arrival → ℕ → ℕ → Action
giving_up timeout a place number =
    record { moment = moment (a.at + timeout); kind = GivingUp; place = place; number = number }

abbrev pub ending : Arrival → ℕ → ℕ → ℕ → Action
ending a start place number =
    record { moment = moment (start + a.duration); kind = Ending; place = place; number = number }

-- what an action leaves pending, by its answer: an admitted or granted arrival its ending, a
-- waiting one its giving up; any other answer nothing
abbrev pub left_by : ℕ → Arrival → Step → Kind → Option Reply → Option Action
left_by timeout a s Arriving (Some (Admitted inflight)) =
    Some (ending a s.action.moment s.action.place s.first)
left_by timeout a s Arriving (Some Waiting) = Some (giving_up timeout a s.action.place s.first)
left_by timeout a s GivingUp (Some (Granted part start inflight)) =
    Some (ending a start s.action.place s.action.number)
left_by timeout a s _ _ = None

abbrev pub left : ℕ → Arrival → Step → Option Action
left timeout a s = left_by timeout a s s.action.kind s.reply

-- the last step at a place
abbrev pub last_step : List Step → ℕ → Option Step
last_step steps place = last_or None (filter (λ s. s.action.place == place) steps)

-- what is pending after it: where there is none, the arrival is still to come
abbrev pub pending_after : ℕ → Arrival → ℕ → Option Step → Option Action
pending_after timeout a place None = Some (arriving a place)
pending_after timeout a place (Some s) = left timeout a s

-- THE PENDING ACTION of a place, if there is one
abbrev pub pending_at : List Arrival → ℕ → List Step → ℕ → Option Action
pending_at arrivals timeout steps place =
    option_and_then (λ a. pending_after timeout a place (last_step steps place))
    (slice_get arrivals place)

abbrev pub IsPending : List Arrival → ℕ → List Step → Action → Type 0
IsPending arrivals timeout steps d = pending_at arrivals timeout steps d.place ≡ Some d
