-- What is told of a gate at one moment.
use Rattle.std.specs.Prelude.{List, [], ◌∷◌, length, map}
use Rattle.partitions.specs.declared.part.Part.{Part}
use Rattle.partitions.specs.declared.part.Part.TheVariants.{Known, Unknown}
use Rattle.partitions.specs.Table.{place_of, share}
use Rattle.lifo_backlog.specs.Sharing.{waiting_at}
use Rattle.limiter_core.specs.declared.counters.Counters.{Counters}
use Rattle.limiter_core.specs.History.{Gate, Image, limit, total}
use Rattle.gate_port.specs.declared.report.Report.{Report}

-- the partitions that are told of, the unknown one last
abbrev pub told_parts : List Part
told_parts = Known 0 ∷ Known 1 ∷ Known 2 ∷ Known 3 ∷ Unknown ∷ []

-- THE REPORT of the state: the limit, all that is in flight, waits and is granted, the
-- in-flight counts and shares of the partitions, how many of each wait, what the limit tells of
-- itself, and the counters
abbrev pub report_in : {S : Type 0} → Gate S → Image S → Counters → Report
report_in g i counters = record {
  limit = limit g i;
  inflight = total i;
  waiters = length i.waiters;
  granted = length i.granted;
  counts = map (λ part. i.inflight (place_of g.rows part)) told_parts;
  shares = map (λ part. share g.rows (place_of g.rows part) (limit g i)) told_parts;
  waiting = map (λ part. waiting_at g.rows i.waiters (place_of g.rows part)) told_parts;
  view = g.rules.view i.state;
  counters = counters;
}
