-- AIMD is lawful.
use Rattle.std.proofs.Common.{ℕ, refl, arith, min, max}
use Rattle.limit_laws.specs.Algorithm.{IsLawful, IsWithin, Follows}
use Rattle.aimd.specs.AimdRules.{AimdState, aimd_rules}

-- any limit that is brought into the bounds
pub bounded_within : (s : AimdState) (n : ℕ) → IsWithin aimd_rules s →
    Follows aimd_rules s (record s { limit = min (max n s.lo) s.hi })
bounded_within s n w = record {
  within = record {
    positive = w.positive;
    least = omega (arith, w.least, w.most);
    most = omega arith;
    small = w.small;
    first_least = w.first_least;
    first_most = w.first_most;
  };
  lo = refl;
  hi = refl;
  first = refl;
}

pub IsLawful-aimd : IsLawful aimd_rules
IsLawful-aimd = record {
  after_sample = λ s x w i. bounded_within s _ w;
  after_setting = λ s n w. tt;
  after_reset = λ s w. record {
    within = record {
      positive = w.positive;
      least = w.first_least;
      most = w.first_most;
      small = w.small;
      first_least = w.first_least;
      first_most = w.first_most;
    };
    lo = refl;
    hi = refl;
    first = refl;
  };
}
