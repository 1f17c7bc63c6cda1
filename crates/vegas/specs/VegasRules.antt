-- A limit by the length of its queue, after TCP Vegas, and the limit that numbers make.
use Rattle.std.specs.Prelude.{ℕ, ◌+◌, ◌-◌, ◌*◌, ◌≤◌, IfSome, Bool, true, false, Option, Some, None, Result, Ok, Err, min, max, nat_eq, nat_lt, nat_le, ◌&&◌, ◌||◌, if◌then◌else◌, find, unwrap_or}
use Rattle.std.specs.List.{range_with_len}
use Rattle.limit_laws.specs.declared.limit.MakeFault.{MakeFault}
use Rattle.limit_laws.specs.declared.limit.MakeFault.TheVariants.{Range, Alpha}
use Rattle.limit_laws.specs.declared.limit.SetFault.TheVariants.{NotSettable}
use Rattle.limit_laws.specs.declared.view.LimitView.{LimitView}
use Rattle.limit_laws.specs.Facts.{SampleFacts, hour}
use Rattle.limit_laws.specs.Algorithm.{Algorithm, greatest_limit}
use Rattle.vegas.specs.declared.numbers.VegasNumbers.{VegasNumbers}

-- the bounds, the limit now and the first one in permits; the thresholds of the queue in permits;
-- how many samples come to a probe, none where that is 0; the base round trip in nanoseconds, once
-- there is one; the last round trip, 0 before it; the samples since the last probe
pub record VegasState : Type 0 where
  pub lo : ℕ
  pub limit : ℕ
  pub hi : ℕ
  pub first : ℕ
  pub alpha : ℕ
  pub beta : ℕ
  pub probe_every : ℕ
  pub base : Option ℕ
  pub last : ℕ
  pub count : ℕ

-- the most samples that come to a probe
abbrev pub most_probe : ℕ
most_probe = 1000000

-- 1 ≤ lo ≤ first ≤ hi ≤ 10,000, and a probe each 1,000,000 samples or more often
pub record IsInRange (lo first hi probe_every : ℕ) : Type 0 where
  pub positive : 1 ≤ lo
  pub first_least : lo ≤ first
  pub first_most : first ≤ hi
  pub small : hi ≤ greatest_limit
  pub probe_most : probe_every ≤ most_probe

-- the greatest threshold of a queue
abbrev pub most_queue : ℕ
most_queue = 100

-- thresholds of a queue: 1 ≤ alpha ≤ beta ≤ 100
pub record AreThresholds (alpha beta : ℕ) : Type 0 where
  pub least : 1 ≤ alpha
  pub order : alpha ≤ beta
  pub most : beta ≤ most_queue

-- what is true of every Vegas limit
pub record IsVegas (s : VegasState) : Type 0 where
  pub range : IsInRange s.lo s.first s.hi s.probe_every
  pub thresholds : AreThresholds s.alpha s.beta
  pub least : s.lo ≤ s.limit
  pub most : s.limit ≤ s.hi
  pub counted : s.count ≤ s.probe_every
  pub last : s.last ≤ hour
  pub base : IfSome s.base (λ base. (1 ≤ base) × (base ≤ s.last))

-- the first state of these numbers
abbrev pub vegas_from : ℕ → ℕ → ℕ → ℕ → ℕ → ℕ → VegasState
vegas_from lo first hi alpha beta probe_every = record {
  lo = lo;
  limit = first;
  hi = hi;
  first = first;
  alpha = alpha;
  beta = beta;
  probe_every = probe_every;
  base = None;
  last = 0;
  count = 0;
}

-- 1 ≤ lo ≤ first ≤ hi ≤ 10,000, and a probe each 1,000,000 samples or more often
abbrev pub is_in_range : VegasNumbers → Bool
is_in_range n =
    nat_le 1 n.lo && nat_le n.lo n.first && nat_le n.first n.hi && nat_le n.hi greatest_limit
    && nat_le n.probe_every most_probe

-- thresholds of a queue: 1 ≤ alpha ≤ beta ≤ 100
abbrev pub are_thresholds : VegasNumbers → Bool
are_thresholds n =
    nat_le 1 n.alpha && nat_le n.alpha n.beta && nat_le n.beta most_queue

-- the first state of these numbers
abbrev pub vegas_of : VegasNumbers → VegasState
vegas_of n = vegas_from n.lo n.first n.hi n.alpha n.beta n.probe_every

-- THE LIMIT of these numbers, or their first fault
abbrev pub vegas_made : VegasNumbers → Result VegasState MakeFault
vegas_made n =
    if is_in_range n then (if are_thresholds n then Ok (vegas_of n) else Err Alpha) else Err Range

-- the first state under another greatest limit, which is brought between lo and 10,000
abbrev pub with_greatest : ℕ → VegasState → VegasState
with_greatest most s =
    let hi = max (min most greatest_limit) s.lo in
    vegas_from s.lo (min s.first hi) hi s.alpha s.beta s.probe_every

-- whether the next sample is a probe: the count reaches its end with it
abbrev pub probes : VegasState → Bool
probes s = if nat_eq s.probe_every 0 then false else nat_le s.probe_every (s.count + 1)

-- the count after the next sample: it begins again at a probe, and stays 0 where there are none
abbrev pub count_after : VegasState → ℕ
count_after s =
    if nat_eq s.probe_every 0 then s.count
    else (if nat_le s.probe_every (s.count + 1) then 0 else s.count + 1)

-- whether a round trip is below the base, or the first one
abbrev pub is_new_base : Option ℕ → ℕ → Bool
is_new_base None rtt = true
is_new_base (Some base) rtt = nat_lt rtt base

-- the queue: the least q with q * rtt ≥ limit * (rtt - base), sought among 0 to the limit, which
-- is one
unfoldable pub queue : ℕ → ℕ → ℕ → ℕ
queue limit rtt base =
    unwrap_or (find (λ q. nat_le (limit * (rtt - base)) (q * rtt)) (range_with_len 0 (limit + 1)))
    limit

-- one more below alpha, one less above beta
abbrev pub by_queue : VegasState → ℕ → ℕ
by_queue s q =
    if nat_lt q s.alpha then s.limit + 1
    else (if nat_lt s.beta q then s.limit - 1 else s.limit)

-- the limit after a sample that is measured against a base: one less at a drop, the same where
-- less than half of it was in use, else by the queue
abbrev pub measured : VegasState → ℕ → SampleFacts → ℕ
measured s base x =
    if x.dropped then s.limit - 1
    else
    (if nat_lt (2 * x.inflight) s.limit then s.limit
    else by_queue s (queue s.limit x.rtt base))

-- a probe and a new base set the base and leave the limit; every other sample is measured, and
-- the limit brought into the bounds
abbrev pub vegas_step : VegasState → SampleFacts → VegasState
vegas_step s x =
    if probes s || is_new_base s.base x.rtt
    then record s { base = Some x.rtt; count = count_after s }
    else record s {
      limit = min (max (measured s (unwrap_or s.base 0) x) s.lo) s.hi;
      count = count_after s;
    }

-- then its round trip is the last one
abbrev pub vegas_next : VegasState → SampleFacts → VegasState
vegas_next s x = record (vegas_step s x) { last = x.rtt }

-- the queue of a round trip against a base, where there is one
abbrev pub queue_at : ℕ → ℕ → Option ℕ → Option ℕ
queue_at limit rtt None = None
queue_at limit rtt (Some base) = Some (queue limit rtt base)

-- THE QUEUE NOW: that of the last round trip under the limit now
abbrev pub queue_now : VegasState → Option ℕ
queue_now s = queue_at s.limit s.last s.base

abbrev pub vegas_view : VegasState → LimitView
vegas_view s =
    record { by_hand = false; base_ns = s.base; window = None; queue = queue_now s }

abbrev pub vegas_rules : Algorithm VegasState
vegas_rules = record {
  lo = λ s. s.lo;
  limit = λ s. s.limit;
  hi = λ s. s.hi;
  view = vegas_view;
  next = vegas_next;
  put = λ s n. Err NotSettable;
  first = λ s. record s { limit = s.first; base = None; last = 0; count = 0 };
}
