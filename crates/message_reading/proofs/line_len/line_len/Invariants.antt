use Rattle.std.proofs.Common.{◌≤◌, ◌-◌, length}
use Rattle.message_reading.proofs.LineFeeds.{NoLineFeed}
use Rattle.message_reading.proofs.line_len.line_len.Given as goal

abbrev pub invariant-loop-at : goal.invariant-loop-at
invariant-loop-at l = record {
  others : NoLineFeed l.at l.bytes;
  inside : l.at ≤ length l.bytes;
}

abbrev pub decreases-loop-at : goal.decreases-loop-at
decreases-loop-at l = length l.bytes - l.at
