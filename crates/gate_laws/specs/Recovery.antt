-- What an operator asks after a bad day: how soon the limit is up again.
use Rattle.std.specs.Prelude.{◌≡◌, ◌+◌, ◌≤◌, ⊤, ℕ, Option, Some, List, [], ◌∷◌, ◌++◌, All, length, map, min}
use Rattle.limit_laws.specs.declared.view.WindowView.{WindowView}
use Rattle.limit_laws.specs.Facts.{SampleFacts}
use Rattle.limit_laws.specs.Algorithm.{IsWithin}
use Rattle.limit_laws.specs.Use.{AreInUse}
use Rattle.vegas.specs.Queues.{HasNoProbe, IsAtBase}
use Rattle.vegas.specs.VegasRules.{VegasState, vegas_rules}
use Rattle.windowed.specs.declared.numbers.WindowNumbers.{WindowNumbers}
use Rattle.windowed.specs.Learning.{HasEnough, emptied}
use Rattle.windowed.specs.Windows.{Input, IsCuttingFrom, Sampled, Stretch, window_mean}
use Rattle.limit_kinds.specs.declared.kinds.AnyLimit.{AnyLimit}
use Rattle.limit_kinds.specs.declared.kinds.AnyLimit.TheVariants.{Windowed}
use Rattle.limit_kinds.specs.declared.kinds.BaseLimit.TheVariants.{Vegas}
use Rattle.limit_kinds.specs.AnyKinds.{any_rules}
use Rattle.limiter_core.specs.declared.event.Event.TheVariants.{End, Reset, SetLimit}
use Rattle.limiter_core.specs.declared.event.Entry.{Entry}
use Rattle.limiter_core.specs.declared.event.Entry.TheVariants.{Call}
use Rattle.limiter_core.specs.History.{Gate, Image, ending_samples, image_after, limit}

-- the samples of entries, in order: those of their endings
abbrev pub samples_in : List Entry → List SampleFacts
samples_in [] = []
samples_in (Call (End permit outcome now) reply ∷ h) =
    ending_samples permit outcome now ++ samples_in h
samples_in (entry ∷ h) = samples_in h

-- none of them sets or resets the limit
abbrev pub AreUnset : List Entry → Type 0
AreUnset [] = ⊤
AreUnset (Call (SetLimit n now) reply ∷ h) = ⊥
AreUnset (Call (Reset now) reply ∷ h) = ⊥
AreUnset (entry ∷ h) = AreUnset h

-- FULL WINDOWS AT THE BASE: the samples are cut into windows, each with enough to learn from, whose
-- means took as long as the base, found at least half of the limit in use, and have no probe
pub record AreFullAtTheBase (w : WindowNumbers) (due : ℕ) (v : VegasState) (base : ℕ)
    (xs : List SampleFacts) (windows : List Stretch) : Type 0 where
  pub rest : List Input
  pub cut : IsCuttingFrom w due (map Sampled xs) windows rest
  pub enough : All (HasEnough w) windows
  pub at_base : All (IsAtBase base) (map (window_mean w) windows)
  pub in_use : AreInUse vegas_rules v (map (window_mean w) windows)
  pub no_probe : HasNoProbe v (map (window_mean w) windows)

-- THE LAW of recovery: where a window of Vegas has just ended, the limit of the log after k full
-- windows at the base is k more than it was, or the greatest
abbrev pub RecoversAtTheBase : Type 0
RecoversAtTheBase =
    (g : Gate AnyLimit) (o : Image AnyLimit) (h t : List Entry) (w : WindowNumbers) (due : ℕ)
    (last : Option WindowView) (v : VegasState) (base : ℕ) (windows : List Stretch)
    → g.rules ≡ any_rules
    → (image_after g o h).state ≡ Windowed (emptied w due last (Vegas v))
    → IsWithin vegas_rules v → 1 ≤ v.alpha → v.base ≡ Some base
    → AreUnset t → AreFullAtTheBase w due v base (samples_in t) windows
    → limit g (image_after g o (h ++ t)) ≡ min v.hi (v.limit + length windows)
