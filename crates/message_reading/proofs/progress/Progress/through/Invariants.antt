use Rattle.std.proofs.Common.{◌≤◌, ◌+◌, ◌-◌, ◌++◌, List, ℕ, length, take}
use Rattle.message_reading.specs.Progress.{IsProgress, lines_of}
use Rattle.message_reading.proofs.progress.Progress.through.Given as goal

abbrev pub invariant-loop-at : goal.invariant-loop-at
invariant-loop-at l = record {
  is : (text : List ℕ) → IsProgress text l.fn.self
      → IsProgress (text ++ take l.at l.piece) l.progress;
  few : lines_of l.progress ≤ lines_of l.fn.self + l.at;
  inside : l.at ≤ length l.piece;
}

abbrev pub decreases-loop-at : goal.decreases-loop-at
decreases-loop-at l = length l.piece - l.at
