-- A limit that needs no numbers is lawful.
use Rattle.std.proofs.Common.{◌≤◌, refl, arith}
use Rattle.limit_laws.specs.Algorithm.{IsLawful, IsWithin, Follows}
use Rattle.auto.specs.declared.learned.Learned.{Learned}
use Rattle.auto.specs.AutoState.{AutoState}
use Rattle.auto.specs.AutoRules.{auto_rules, unlearned}

-- whatever was learned, the limit that callers see is within the bounds
pub learned_within : (s : AutoState) (l : Learned) → IsWithin auto_rules s →
    Follows auto_rules s (record s { learned = l })
learned_within s l w =
    let ordered : s.lo ≤ s.hi = omega (arith, w.least, w.most) in
    record {
      within = record {
        positive = w.positive;
        least = omega arith;
        most = omega arith;
        small = w.small;
        first_least = w.first_least;
        first_most = w.first_most;
      };
      lo = refl;
      hi = refl;
      first = refl;
    }

pub IsLawful-auto : IsLawful auto_rules
IsLawful-auto = record {
  after_sample = λ s x w i. learned_within s _ w;
  after_setting = λ s n w. tt;
  after_reset = λ s w. learned_within s (unlearned s.first) w;
}
