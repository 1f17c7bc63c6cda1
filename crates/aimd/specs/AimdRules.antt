-- Additive increase, multiplicative decrease, and the limit that numbers make.
use Rattle.std.specs.Prelude.{ℕ, false, ◌+◌, ◌*◌, ◌<◌, ◌≤◌, Bool, Result, Ok, Err, min, max, nat_lt, nat_le, ◌&&◌, ◌||◌, if◌then◌else◌}
use Rattle.lemmas.specs.Extremes.{greatest}
use Rattle.limit_laws.specs.declared.limit.MakeFault.{MakeFault}
use Rattle.limit_laws.specs.declared.limit.MakeFault.TheVariants.{Range, Ratio}
use Rattle.limit_laws.specs.declared.limit.SetFault.TheVariants.{NotSettable}
use Rattle.limit_laws.specs.Facts.{SampleFacts, hour}
use Rattle.limit_laws.specs.View.{unmeasured}
use Rattle.limit_laws.specs.Algorithm.{Algorithm, greatest_limit}
use Rattle.aimd.specs.declared.numbers.AimdNumbers.{AimdNumbers}

-- the bounds, the limit now and the first one in permits, the ratio of a decrease in thousandths,
-- and the longest round trip that is no drop in nanoseconds
pub record AimdState : Type 0 where
  pub lo : ℕ
  pub limit : ℕ
  pub hi : ℕ
  pub first : ℕ
  pub ratio : ℕ
  pub timeout : ℕ

-- 1 ≤ lo ≤ first ≤ hi ≤ 10,000, and a timeout of 1 ns to one hour
pub record IsInRange (lo first hi timeout : ℕ) : Type 0 where
  pub positive : 1 ≤ lo
  pub first_least : lo ≤ first
  pub first_most : first ≤ hi
  pub small : hi ≤ greatest_limit
  pub timeout_least : 1 ≤ timeout
  pub timeout_most : timeout ≤ hour

-- the least ratio and the greatest one, in thousandths
abbrev pub least_ratio : ℕ
least_ratio = 500

abbrev pub greatest_ratio : ℕ
greatest_ratio = 999

-- a ratio between these
pub record IsRatio (ratio : ℕ) : Type 0 where
  pub least : least_ratio ≤ ratio
  pub most : ratio ≤ greatest_ratio

-- what is true of every AIMD
pub record IsAimd (s : AimdState) : Type 0 where
  pub range : IsInRange s.lo s.first s.hi s.timeout
  pub ratio : IsRatio s.ratio
  pub least : s.lo ≤ s.limit
  pub most : s.limit ≤ s.hi

-- the first state of these numbers
abbrev pub aimd_from : ℕ → ℕ → ℕ → ℕ → ℕ → AimdState
aimd_from lo first hi ratio timeout = record {
  lo = lo;
  limit = first;
  hi = hi;
  first = first;
  ratio = ratio;
  timeout = timeout;
}

-- 1 ≤ lo ≤ first ≤ hi ≤ 10,000, and a timeout of 1 ns to one hour
abbrev pub is_in_range : AimdNumbers → Bool
is_in_range n =
    nat_le 1 n.lo && nat_le n.lo n.first && nat_le n.first n.hi && nat_le n.hi greatest_limit
    && nat_le 1 n.timeout_ns && nat_le n.timeout_ns hour

-- a ratio in its range
abbrev pub is_ratio : AimdNumbers → Bool
is_ratio n = nat_le least_ratio n.ratio_thousandths && nat_le n.ratio_thousandths greatest_ratio

-- the first state of these numbers
abbrev pub aimd_of : AimdNumbers → AimdState
aimd_of n = aimd_from n.lo n.first n.hi n.ratio_thousandths n.timeout_ns

-- THE LIMIT of these numbers, or their first fault
abbrev pub aimd_made : AimdNumbers → Result AimdState MakeFault
aimd_made n =
    if is_in_range n then (if is_ratio n then Ok (aimd_of n) else Err Ratio) else Err Range

-- the first state under another greatest limit, which is brought between lo and 10,000
abbrev pub with_greatest : ℕ → AimdState → AimdState
with_greatest most s =
    let hi = max (min most greatest_limit) s.lo in
    aimd_from s.lo (min s.first hi) hi s.ratio s.timeout

-- what a drop leaves of a limit: the greatest m with 1000 * m ≤ limit * ratio
unfoldable pub decreased : ℕ → ℕ → ℕ
decreased limit ratio = greatest (λ m. nat_le (1000 * m) (limit * ratio)) (limit * ratio)

-- in other words: m fits, and one more doesn't
pub record IsDecrease (limit ratio m : ℕ) : Type 0 where
  pub fits : 1000 * m ≤ limit * ratio
  pub greatest : limit * ratio < 1000 * (m + 1)

-- a drop, and a round trip above the timeout, decrease the limit; else it rises by one where at
-- least half of it was in use, and stays where less was
abbrev pub aimd_step : AimdState → SampleFacts → ℕ
aimd_step s x =
    if x.dropped || nat_lt s.timeout x.rtt then decreased s.limit s.ratio
    else (if nat_le s.limit (2 * x.inflight) then s.limit + 1 else s.limit)

-- the next limit is brought into the bounds
abbrev pub aimd_next : AimdState → SampleFacts → AimdState
aimd_next s x = record s { limit = min (max (aimd_step s x) s.lo) s.hi }

abbrev pub aimd_rules : Algorithm AimdState
aimd_rules = record {
  lo = λ s. s.lo;
  limit = λ s. s.limit;
  hi = λ s. s.hi;
  view = λ s. unmeasured false;
  next = aimd_next;
  put = λ s n. Err NotSettable;
  first = λ s. record s { limit = s.first };
}
