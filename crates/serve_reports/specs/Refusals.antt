-- How many requests of each class the gate refused.
use Rattle.std.specs.Prelude.{ℕ, List, set, slice_index, Option, None, Some, nat_lt, if◌then◌else◌}
use Rattle.counted_io.specs.Count.{raised}
use Rattle.partitions.specs.declared.part.Part.{Part}
use Rattle.partitions.specs.declared.part.Part.TheVariants.{Unknown, Known}
use Rattle.classifier.specs.declared.class.Class.{Class}
use Rattle.gate_port.specs.declared.port.Why.{Why}
use Rattle.gate_port.specs.declared.port.Why.TheVariants.{Full, BacklogFull, TimedOut}
use Rattle.proxy.specs.declared.told.ExchangeSummary.{ExchangeSummary}
use Rattle.proxy.specs.declared.told.Verdict.{Verdict}
use Rattle.proxy.specs.declared.told.Verdict.TheVariants.{Refused}
use Rattle.serve_reports.specs.declared.refusals.RefusalTally.{RefusalTally}

-- the place at which a class is told of: its own among four, and the last for all other callers
abbrev pub told_place : Part → ℕ
told_place Unknown = 4
told_place (Known k) = if nat_lt k 4 then k else 4

-- counts of which that at a place is one more
abbrev pub raised_at : ℕ → List ℕ → List ℕ
raised_at place counts = set counts place (raised (slice_index counts place))

-- a tally after one more refusal at a place, for this cause
abbrev pub refused_at : ℕ → Why → RefusalTally → RefusalTally
refused_at place Full t = record t { full = raised_at place t.full }
refused_at place BacklogFull t = record t { backlog = raised_at place t.backlog }
refused_at place TimedOut t = record t { timed_out = raised_at place t.timed_out }
refused_at place _ t = t

-- the same after what the gate said of a request
abbrev pub refused_by : Class → Verdict → RefusalTally → RefusalTally
refused_by class (Refused why) t = refused_at (told_place class.part) why t
refused_by class _ t = t

abbrev pub refused_of : Option Class → Verdict → RefusalTally → RefusalTally
refused_of None said t = t
refused_of (Some class) said t = refused_by class said t

-- A TALLY AFTER AN EXCHANGE: one more of its request's class, where the gate refused that
abbrev pub refused : ExchangeSummary → RefusalTally → RefusalTally
refused x t = refused_of x.class x.admission t
