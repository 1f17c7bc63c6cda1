use Rattle.std.proofs.Common.{◌≤◌, ◌+◌, ◌++◌, List, ℕ, take}
use Rattle.message_reading.specs.Progress.{IsProgress, lines_of}
use Rattle.message_reading.proofs.progress.Progress.by_bytes.Given as goal

abbrev pub invariant-loop-byte : goal.invariant-loop-byte
invariant-loop-byte l = record {
  is : (text : List ℕ) → IsProgress text l.fn.self
      → IsProgress (text ++ take l.byte-index l.piece) l.progress;
  few : lines_of l.progress ≤ lines_of l.fn.self + l.byte-index;
}
