-- How fast a limit rises.
use Rattle.std.specs.Prelude.{◌≡◌, ℕ, ◌+◌, ◌≤◌, false, List, All, length, fold, min}
use Rattle.limit_laws.specs.Facts.{SampleFacts}
use Rattle.limit_laws.specs.Algorithm.{IsWithin}
use Rattle.limit_laws.specs.Use.{AreInUse}
use Rattle.aimd.specs.AimdRules.{AimdState, aimd_rules, aimd_next}

-- a sample that wasn't dropped, and took no longer than the timeout
pub record IsInTime (timeout : ℕ) (x : SampleFacts) : Type 0 where
  pub rtt : x.rtt ≤ timeout
  pub success : x.dropped ≡ false

-- THE LAW of recovery: after n samples in time, each of which found at least half of the limit in
-- use, the limit is the lesser of the greatest and n more than it was
abbrev pub RisesByOneASample : Type 0
RisesByOneASample =
    (s : AimdState) (xs : List SampleFacts) → IsWithin aimd_rules s →
    All (IsInTime s.timeout) xs → AreInUse aimd_rules s xs →
    (fold aimd_next s xs).limit ≡ min s.hi (s.limit + length xs)
