use Rattle.std.proofs.Common.{◌≡◌, ◌+◌, ◌++◌, ◌≤◌, max, length, drop}
use Rattle.counted_io.specs.Counted.{calls_of, failures_of}
use Rattle.counted_io.specs.Effects.{Gave}
use Rattle.body_memory.specs.Memory.{more}
use Rattle.message_reading.proofs.plain_body.fill.Given as goal

-- what was read so far lies behind what the body had
abbrev pub invariant-loop-left : goal.invariant-loop-left
invariant-loop-left g l =
    let got = drop (length l.fn.body.items) l.body.items in
    record {
      consumed : Gave g.R.Read.remaining l.fn.reader l.reader got;
      kept : l.body.items ≡ l.fn.body.items ++ got;
      counted : length got + l.left ≡ l.size;
      failures : failures_of l.reader ≡ failures_of l.fn.reader;
      few : calls_of l.reader ≤ max l.limit (calls_of l.fn.reader);
      goes_on : calls_of l.fn.reader ≤ calls_of l.reader;
      holds : g.M.BodyMemory.held l.memory ≡ more (length got) (g.M.BodyMemory.held l.fn.memory);
      accepted : g.M.BodyMemory.refused l.memory ≡ g.M.BodyMemory.refused l.fn.memory;
    }

abbrev pub decreases-loop-left : goal.decreases-loop-left
decreases-loop-left g l = l.left
