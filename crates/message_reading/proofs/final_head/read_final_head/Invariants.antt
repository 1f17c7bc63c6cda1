use Rattle.std.proofs.Common.{◌≡◌, ◌≤◌, max}
use Rattle.counted_io.specs.Counted.{inner_of, calls_of, failures_of}
use Rattle.message_reading.proofs.Finals.{GoOn}
use Rattle.message_reading.proofs.final_head.read_final_head.Given as goal

abbrev pub invariant-loop-head : goal.invariant-loop-head
invariant-loop-head g l =
    let remaining = g.R.Read.remaining in
    record {
      on : GoOn (remaining (inner_of l.fn.reader)) (remaining (inner_of l.reader)) l.left;
      failures : failures_of l.reader ≡ failures_of l.fn.reader;
      few : calls_of l.reader ≤ max l.limit (calls_of l.fn.reader);
      few_left : l.left ≤ 16;
      goes_on : calls_of l.fn.reader ≤ calls_of l.reader;
    }

abbrev pub decreases-loop-head : goal.decreases-loop-head
decreases-loop-head g l = l.left
