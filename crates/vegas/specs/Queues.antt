-- What the rule means for an operator.
use Rattle.std.specs.Prelude.{◌≡◌, ℕ, ◌+◌, ◌-◌, ◌*◌, ◌≤◌, ◌<◌, ◌⊎◌, false, Some, IfSome, All, List, ◌++◌, length, fold, min}
use Rattle.limit_laws.specs.Facts.{SampleFacts}
use Rattle.limit_laws.specs.Algorithm.{IsWithin}
use Rattle.limit_laws.specs.Use.{AreInUse}
use Rattle.vegas.specs.VegasRules.{VegasState, vegas_rules, vegas_next, queue}

-- THE LAW of the queue: it is the least q with q * rtt ≥ limit * (rtt - base)
abbrev pub EstimatesTheLeastQueue : Type 0
EstimatesTheLeastQueue =
    (limit rtt base : ℕ) → 1 ≤ rtt →
    (limit * (rtt - base) ≤ queue limit rtt base * rtt)
    × ((q : ℕ) → limit * (rtt - base) ≤ q * rtt → queue limit rtt base ≤ q)

-- a sample that wasn't dropped and took as long as the base
pub record IsAtBase (base : ℕ) (x : SampleFacts) : Type 0 where
  pub rtt : x.rtt ≡ base
  pub success : x.dropped ≡ false

-- THE LAW of an empty queue: over samples at the base the limit of a later state is no less than
-- that of an earlier one
abbrev pub NeverFallsAtTheBase : Type 0
NeverFallsAtTheBase =
    (s : VegasState) (base : ℕ) (xs ys : List SampleFacts) → IsWithin vegas_rules s →
    1 ≤ s.alpha → IfSome s.base (λ b. b ≡ base) →
    All (IsAtBase base) (xs ++ ys) →
    (fold vegas_next s xs).limit ≤ (fold vegas_next s (xs ++ ys)).limit

-- no sample of a list is a probe: none ever is, or the next probe comes after them
abbrev pub HasNoProbe : VegasState → List SampleFacts → Type 0
HasNoProbe s xs = (s.probe_every ≡ 0) ⊎ (s.count + length xs < s.probe_every)

-- THE LAW of recovery: after n samples at the base with no probe among them, each of which found
-- at least half of the limit in use, the limit is the lesser of the greatest and n more than it was
abbrev pub RisesAtTheBase : Type 0
RisesAtTheBase =
    (s : VegasState) (base : ℕ) (xs : List SampleFacts) → IsWithin vegas_rules s →
    1 ≤ s.alpha → s.base ≡ Some base → HasNoProbe s xs →
    All (IsAtBase base) xs → AreInUse vegas_rules s xs →
    (fold vegas_next s xs).limit ≡ min s.hi (s.limit + length xs)
