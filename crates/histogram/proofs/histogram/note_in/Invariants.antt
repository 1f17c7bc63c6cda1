use Rattle.std.proofs.Common.{◌≡◌, ◌<◌, ◌≤◌, ℕ, length}
use Rattle.std.specs.Prelude.{slice_index}
use Rattle.histogram.specs.Histogram.{bounds, one_more}
use Rattle.histogram.proofs.histogram.note_in.Given as goal

-- the time is noted in the buckets so far, and the others are as before
abbrev pub invariant-loop-place : goal.invariant-loop-place
invariant-loop-place l = record {
  noted : (k : ℕ) → k < l.place → slice_index l.counts k
      ≡ one_more l.time (slice_index bounds k) (slice_index l.fn.counts k);
  others : (k : ℕ) → l.place ≤ k → slice_index l.counts k ≡ slice_index l.fn.counts k;
}
