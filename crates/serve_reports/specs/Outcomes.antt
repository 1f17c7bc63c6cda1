-- How many permits of each class ended, by their outcome.
use Rattle.std.specs.Prelude.{ℕ, nat_lt, Option, None, Some, if◌then◌else◌}
use Rattle.limiter_core.specs.declared.event.Outcome.{Outcome}
use Rattle.limiter_core.specs.declared.event.Outcome.TheVariants.{Success, Ignored, Dropped}
use Rattle.classifier.specs.declared.class.Class.{Class}
use Rattle.proxy.specs.declared.told.ExchangeSummary.{ExchangeSummary}
use Rattle.proxy.specs.declared.told.PermitTimes.{PermitTimes}
use Rattle.proxy.specs.declared.told.Verdict.{Verdict}
use Rattle.proxy.specs.declared.told.Verdict.TheVariants.{Admitted}
use Rattle.serve_reports.specs.declared.outcomes.OutcomeTally.{OutcomeTally}
use Rattle.serve_reports.specs.Refusals.{raised_at, told_place}

-- a tally after one more permit ended so, at a place
abbrev pub ended_at : ℕ → Outcome → OutcomeTally → OutcomeTally
ended_at place Success t = record t { success = raised_at place t.success }
ended_at place Ignored t = record t { ignored = raised_at place t.ignored }
ended_at place Dropped t = record t { dropped = raised_at place t.dropped }

-- the same by what the gate said of a request, and by what the backend's answer told it
abbrev pub ended_by : Option Class → Verdict → Option Outcome → OutcomeTally → OutcomeTally
ended_by (Some class) Admitted (Some outcome) t = ended_at (told_place class.part) outcome t
ended_by class said outcome t = t

-- a tally after one more permit that was waited for so long, at a place
abbrev pub waited_at : ℕ → ℕ → OutcomeTally → OutcomeTally
waited_at place waited t =
    if nat_lt 0 waited then record t { promoted = raised_at place t.promoted } else t

-- the same by the times of a permit, where there was one
abbrev pub waited_by : Option Class → Option PermitTimes → OutcomeTally → OutcomeTally
waited_by (Some class) (Some times) t = waited_at (told_place class.part) times.waited t
waited_by class times t = t

-- A TALLY AFTER AN EXCHANGE: one more of its request's class and its outcome, where that got a
-- permit, and of those that were waited for, where it was
abbrev pub ended : ExchangeSummary → OutcomeTally → OutcomeTally
ended x t = waited_by x.class x.permit (ended_by x.class x.admission x.outcome t)
