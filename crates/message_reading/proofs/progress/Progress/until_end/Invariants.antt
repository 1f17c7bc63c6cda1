use Rattle.std.proofs.Common.{◌≡◌, ◌≤◌, ◌<◌, ◌+◌, ◌-◌, ◌++◌, false, List, ℕ, length, take}
use Rattle.message_reading.specs.HeadBytes.{ends_head}
use Rattle.message_reading.specs.Progress.{IsProgress, lines_of}
use Rattle.message_reading.proofs.HeadCuts.{GoesBy}
use Rattle.message_reading.proofs.progress.Progress.until_end.Given as goal

abbrev pub invariant-loop-at : goal.invariant-loop-at
invariant-loop-at l = record {
  is : (text : List ℕ) → IsProgress text l.fn.self → length text + l.at ≤ 65536
      → IsProgress (text ++ take l.at l.bytes) l.progress × GoesBy text (take l.at l.bytes)
      × (0 < l.at → ends_head (text ++ take l.at l.bytes) ≡ false);
  few : lines_of l.progress ≤ lines_of l.fn.self + l.at;
  inside : l.at ≤ length l.bytes;
}

abbrev pub decreases-loop-at : goal.decreases-loop-at
decreases-loop-at l = length l.bytes - l.at
