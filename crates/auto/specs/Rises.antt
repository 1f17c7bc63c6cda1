-- That the limit can't stick: what raises it, and that what holds it back ends.
use Rattle.std.specs.Prelude.{◌≡◌, ◌-◌, ◌<◌, ◌≤◌, true, false}
use Rattle.limit_laws.specs.Facts.{SampleFacts}
use Rattle.auto.specs.declared.window.Window.{Window}
use Rattle.auto.specs.AutoState.{AutoState, IsAuto}
use Rattle.auto.specs.Window.{with_answer}
use Rattle.auto.specs.AutoRules.{auto_rules, mean, needed, shown}

-- the window with one more answer
abbrev pub with_sample : AutoState → SampleFacts → Window
with_sample s x = with_answer s.learned.window s.learned.last x

-- an answer that counts and makes the window full, in which no quick drop is
pub record EndsWindow (s : AutoState) (x : SampleFacts) : Type 0 where
  pub answered : x.dropped ≡ false
  pub counts : s.learned.skip ≡ 0
  pub dry : s.learned.window.drops ≡ 0
  pub full : needed (shown s.lo s.hi s.learned) s.learned ≤ (with_sample s x).count

-- THE LAW of the base: whatever else was learned, a full window that met the limit, and whose mean
-- round trip is the base or less, raises a limit that isn't the greatest, outside a dip and below
-- no roof
abbrev pub RisesAtTheBase : Type 0
RisesAtTheBase =
    (s : AutoState) (x : SampleFacts) → IsAuto s → EndsWindow s x → s.learned.in_dip ≡ false →
    s.learned.roof_left ≤ 1 → mean (with_sample s x) ≤ s.learned.base →
    s.learned.limit ≤ (with_sample s x).most → s.learned.limit < s.hi →
    s.learned.limit < (auto_rules.next s x).learned.limit

-- THE LAW of dips: one full window ends a dip
abbrev pub DipsEnd : Type 0
DipsEnd =
    (s : AutoState) (x : SampleFacts) → EndsWindow s x → s.learned.in_dip ≡ true →
    (auto_rules.next s x).learned.in_dip ≡ false

-- THE LAW of roofs: outside a dip each full window takes one off those for which no raise goes
-- above the roof, of which there are 64 at most
abbrev pub RoofsEnd : Type 0
RoofsEnd =
    (s : AutoState) (x : SampleFacts) → EndsWindow s x → s.learned.in_dip ≡ false →
    (auto_rules.next s x).learned.roof_left ≡ s.learned.roof_left - 1
