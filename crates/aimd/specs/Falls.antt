-- What a drop leaves of a limit, and how fast a limit falls.
use Rattle.std.specs.Prelude.{ℕ, zero, suc, ◌*◌, ◌≤◌, List, length, fold}
use Rattle.limit_laws.specs.Facts.{SampleFacts}
use Rattle.limit_laws.specs.Algorithm.{IsWithin}
use Rattle.aimd.specs.AimdRules.{AimdState, aimd_rules, aimd_next, decreased, IsDecrease}

-- THE LAW of one drop: it leaves the greatest m with 1000 * m ≤ limit * ratio
abbrev pub DecreasesToTheGreatest : Type 0
DecreasesToTheGreatest = (limit ratio : ℕ) → IsDecrease limit ratio (decreased limit ratio)

-- THE LAW of one sample: the next limit is at least each m with 1000 * m ≤ limit * ratio
abbrev pub FallsByTheRatioAtMost : Type 0
FallsByTheRatioAtMost =
    (s : AimdState) (x : SampleFacts) → IsWithin aimd_rules s → s.ratio ≤ 1000 →
    (m : ℕ) → 1000 * m ≤ s.limit * s.ratio → m ≤ (aimd_next s x).limit

-- what so many drops leave of a limit
abbrev pub after_drops : ℕ → ℕ → ℕ → ℕ
after_drops limit ratio zero = limit
after_drops limit ratio (suc n) = after_drops (decreased limit ratio) ratio n

-- THE LAW of a run: after any samples the limit is at least what as many drops leave of it
abbrev pub FallsNoFasterThanDrops : Type 0
FallsNoFasterThanDrops =
    (s : AimdState) (xs : List SampleFacts) → IsWithin aimd_rules s → s.ratio ≤ 1000 →
    after_drops s.limit s.ratio (length xs) ≤ (fold aimd_next s xs).limit
