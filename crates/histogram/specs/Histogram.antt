-- Histograms of times, in nanoseconds.
use Rattle.std.specs.Prelude.{◌≡◌, ◌<◌, ℕ, ◌+◌, ◌-◌, ◌^◌, List, [], ◌∷◌, filter, length, min}
use Rattle.std.specs.Prelude.{nat_le, slice_index, sum, if◌then◌else◌}
use Rattle.histogram.specs.declared.histogram.Histogram.{Histogram}

-- THE BOUNDS of the buckets: from half a millisecond to ten seconds
abbrev pub bounds : List ℕ
bounds =
    500000 ∷ 1000000 ∷ 2500000 ∷ 5000000 ∷ 10000000 ∷ 25000000 ∷ 50000000 ∷ 100000000
    ∷ 250000000 ∷ 500000000 ∷ 1000000000 ∷ 2500000000 ∷ 5000000000 ∷ 10000000000 ∷ []

-- how many of some times are at most a bound
abbrev pub at_most : List ℕ → ℕ → ℕ
at_most times bound = length (filter (λ time. nat_le time bound) times)

-- a number as it is counted, which stays at `u64::MAX`
abbrev pub capped : ℕ → ℕ
capped n = min n (2 ^ 64 - 1)

-- THE HISTOGRAM of some times: each bucket counts those that are at most its bound, and beside them
-- stand how many there are and their sum
pub record IsHistogramOf (times : List ℕ) (h : Histogram) : Type 0 where
  pub counts : (place : ℕ) → place < length bounds
      → slice_index h.counts place ≡ capped (at_most times (slice_index bounds place))
  pub count : h.count ≡ capped (length times)
  pub sum : h.sum ≡ capped (sum times)

-- the count of a bucket with this bound once one more time is noted
abbrev pub one_more : ℕ → ℕ → ℕ → ℕ
one_more time bound count = capped (count + (if nat_le time bound then 1 else 0))
