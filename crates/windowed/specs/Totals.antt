-- What a list of samples comes to.
use Rattle.std.specs.Prelude.{ℕ, ◌+◌, ◌*◌, ◌≤◌, Bool, List, [], ◌∷◌, length, sum_by, fold, min, max, nat_eq, ◌||◌, if◌then◌else◌}
use Rattle.std.specs.List.{list_any}
use Rattle.limit_laws.specs.Facts.{SampleFacts, hour}

-- how many samples, the sum and the least of their round trips in nanoseconds, the most permits in
-- flight that one tells of, and whether one was dropped
pub record WindowTotals : Type 0 where
  pub count : ℕ
  pub sum : ℕ
  pub least : ℕ
  pub greatest_inflight : ℕ
  pub dropped : Bool

-- how many samples a window holds at most
abbrev pub most_samples : ℕ
most_samples = 1000000

-- the least round trip, 0 without samples
abbrev pub least_rtt : List SampleFacts → ℕ
least_rtt [] = 0
least_rtt (x ∷ xs) = fold (λ least y. min least y.rtt) x.rtt xs

-- the totals of a list
abbrev pub totals : List SampleFacts → WindowTotals
totals xs = record {
  count = length xs;
  sum = sum_by (λ x. x.rtt) xs;
  least = least_rtt xs;
  greatest_inflight = fold (λ most x. max most x.inflight) 0 xs;
  dropped = list_any (λ x. x.dropped) xs;
}

-- totals, and those of one more sample
abbrev pub with_sample : WindowTotals → SampleFacts → WindowTotals
with_sample t x = record {
  count = t.count + 1;
  sum = t.sum + x.rtt;
  least = if nat_eq t.count 0 then x.rtt else min t.least x.rtt;
  greatest_inflight = max t.greatest_inflight x.inflight;
  dropped = t.dropped || x.dropped;
}

-- what is true of the totals of up to 1,000,000 samples of 1 ns to one hour
pub record AreTotals (t : WindowTotals) : Type 0 where
  pub count : t.count ≤ most_samples
  pub sum_least : t.count ≤ t.sum
  pub sum_most : t.sum ≤ t.count * hour
  pub least : t.least ≤ hour
