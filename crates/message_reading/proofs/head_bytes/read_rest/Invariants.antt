use Rattle.std.proofs.Common.{◌≡◌, ◌≤◌, ◌-◌, max, length}
use Rattle.counted_io.specs.Counted.{inner_of, calls_of, failures_of}
use Rattle.message_reading.proofs.HeadEnds.{LeadsTo}
use Rattle.message_reading.proofs.head_bytes.read_rest.Given as goal

abbrev pub invariant-loop-seen : goal.invariant-loop-seen
invariant-loop-seen g l =
    let left = g.R.Read.remaining in
    record {
      leads : LeadsTo l.fn.bytes.items (left (inner_of l.fn.reader)) (left (inner_of l.reader))
          l.seen;
      fits : length l.seen ≤ 65536;
      failures : failures_of l.reader ≡ failures_of l.fn.reader;
      few : calls_of l.reader ≤ max l.limit (calls_of l.fn.reader);
      goes_on : calls_of l.fn.reader ≤ calls_of l.reader;
    }

abbrev pub decreases-loop-seen : goal.decreases-loop-seen
decreases-loop-seen g l = 65536 - length l.seen
