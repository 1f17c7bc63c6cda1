use Rattle.std.proofs.Common.{◌≡◌, ◌≤◌, ◌-◌, max, length}
use Rattle.counted_io.specs.Counted.{calls_of, failures_of}
use Rattle.counted_io.specs.Effects.{Gave}
use Rattle.body_memory.specs.Memory.{more}
use Rattle.message_reading.proofs.plain_body.read_to_end.Given as goal

-- what was read so far is the body
abbrev pub invariant-loop-body : goal.invariant-loop-body
invariant-loop-body g l = record {
  consumed : Gave g.R.Read.remaining l.fn.reader l.reader l.body.items;
  fits : length l.body.items ≤ 8388608;
  failures : failures_of l.reader ≡ failures_of l.fn.reader;
  few : calls_of l.reader ≤ max l.limit (calls_of l.fn.reader);
  goes_on : calls_of l.fn.reader ≤ calls_of l.reader;
  holds : g.M.BodyMemory.held l.memory
      ≡ more (length l.body.items) (g.M.BodyMemory.held l.fn.memory);
  accepted : g.M.BodyMemory.refused l.memory ≡ g.M.BodyMemory.refused l.fn.memory;
}

abbrev pub decreases-loop-body : goal.decreases-loop-body
decreases-loop-body g l = 8388608 - length l.body.items
