-- Vegas is lawful.
use Rattle.std.proofs.Common.{ℕ, ◌≤◌, Bool, true, false, Option, Some, None, if◌then◌else◌, ◌||◌, unwrap_or, refl, arith, min, max}
use Rattle.limit_laws.specs.Algorithm.{IsLawful, IsWithin, Follows}
use Rattle.vegas.specs.VegasRules.{VegasState, vegas_rules, probes, is_new_base, measured}

-- a state with another base, last round trip, count, and a limit within the bounds
pub state_within : (s : VegasState) (limit : ℕ) (base : Option ℕ) (last count : ℕ) →
    IsWithin vegas_rules s → s.lo ≤ limit → limit ≤ s.hi →
    Follows vegas_rules s
    (record s { limit = limit; base = base; last = last; count = count })
state_within s limit base last count w above below = record {
  within =
      record {
        positive = w.positive;
        least = above;
        most = below;
        small = w.small;
        first_least = w.first_least;
        first_most = w.first_most;
      };
  lo = refl;
  hi = refl;
  first = refl;
}

-- by the test of a new base
pub next_follows : (s : VegasState) (b : Bool) (n rtt count : ℕ) → IsWithin vegas_rules s →
    Follows vegas_rules s (record (if b then record s { base = Some rtt; count = count }
    else record s { limit = min (max n s.lo) s.hi; count = count }) { last = rtt })
next_follows s true n rtt count w = state_within s s.limit (Some rtt) rtt count w w.least w.most
next_follows s false n rtt count w =
    state_within s _ s.base rtt count w (omega (arith, w.least, w.most)) (omega arith)

pub IsLawful-vegas : IsLawful vegas_rules
IsLawful-vegas = record {
  after_sample =
      λ s x w i.
      next_follows s (probes s || is_new_base s.base x.rtt)
      (measured s (unwrap_or s.base 0) x) x.rtt _ w;
  after_setting = λ s n w. tt;
  after_reset = λ s w. state_within s s.first None 0 0 w w.first_least w.first_most;
}
