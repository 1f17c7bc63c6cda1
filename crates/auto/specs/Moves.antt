-- How far one sample moves the limit.
use Rattle.std.specs.Prelude.{◌≡◌, ◌+◌, ◌*◌, ◌<◌, ◌≤◌, false, true, max}
use Rattle.limit_laws.specs.Facts.{SampleFacts}
use Rattle.auto.specs.Kept.{most_answers}
use Rattle.auto.specs.AutoState.{AutoState, IsAuto}
use Rattle.auto.specs.AutoRules.{auto_rules}

-- THE LAW of drops: no dropped sample raises the limit that callers see
abbrev pub DropsNeverRaise : Type 0
DropsNeverRaise =
    (s : AutoState) (x : SampleFacts) → x.dropped ≡ true →
    auto_rules.limit (auto_rules.next s x) ≤ auto_rules.limit s

-- THE LAW of one sample: the limit outside a dip becomes at most twice and at least half of what it
-- was
abbrev pub MovesByTwiceAtMost : Type 0
MovesByTwiceAtMost =
    (s : AutoState) (x : SampleFacts) → IsAuto s →
    ((auto_rules.next s x).learned.limit ≤ 2 * s.learned.limit)
    × (s.learned.limit ≤ 2 * (auto_rules.next s x).learned.limit)

-- THE LAW of a raise: it comes only where an answer of the window met the limit
abbrev pub RisesOnlyWhereMet : Type 0
RisesOnlyWhereMet =
    (s : AutoState) (x : SampleFacts) → IsAuto s →
    s.learned.limit < (auto_rules.next s x).learned.limit →
    s.learned.limit ≤ max s.learned.window.most x.inflight

-- THE LAW of windows: the answer that is the 640,000th of a window ends it at the latest
abbrev pub WindowsEnd : Type 0
WindowsEnd =
    (s : AutoState) (x : SampleFacts) → IsAuto s → x.dropped ≡ false → s.learned.skip ≡ 0 →
    most_answers ≤ s.learned.window.count + 1 →
    (auto_rules.next s x).learned.window.count ≡ 0
