-- What windows teach the inner algorithm, where all that comes are samples.
use Rattle.std.specs.Prelude.{◌≡◌, ℕ, ◌≤◌, ◌<◌, List, All, length, fold, map, Option}
use Rattle.limit_laws.specs.declared.view.WindowView.{WindowView}
use Rattle.limit_laws.specs.Facts.{SampleFacts, IsSample}
use Rattle.limit_laws.specs.Algorithm.{Algorithm}
use Rattle.windowed.specs.declared.numbers.WindowNumbers.{WindowNumbers}
use Rattle.windowed.specs.WindowedRules.{WindowedState, opened, windowed_next}
use Rattle.windowed.specs.Windows.{Input, Sampled, Stretch, window_samples, window_mean, IsCuttingFrom}

-- a window has enough samples to be handed on
abbrev pub HasEnough : WindowNumbers → Stretch → Type 0
HasEnough w s = w.size ≤ length (window_samples w s)

-- it has too few
abbrev pub HasTooFew : WindowNumbers → Stretch → Type 0
HasTooFew w s = length (window_samples w s) < w.size

-- the state in which a window has just ended, which is shown so, where the next one is due at this
-- moment
abbrev pub emptied : {S : Type 0} → WindowNumbers → ℕ → Option WindowView → S → WindowedState S
emptied w due last inner = record (opened w inner) { last = last; next_update = due }

-- THE LAW of cuttings, from any due moment on: every list of inputs has one
abbrev pub CutsFromAnyMoment : Type 0
CutsFromAnyMoment =
    (w : WindowNumbers) (due : ℕ) (inputs : List Input) →
    (windows : List Stretch) × ((rest : List Input) × IsCuttingFrom w due inputs windows rest)

-- THE LAW of windows with enough: where each window has enough samples, the inner algorithm is
-- where its own run over the mean samples of all windows leads
abbrev pub LearnsFromEachWindow : {S : Type 0} → Algorithm S → Type 0
LearnsFromEachWindow {S} rules =
    (w : WindowNumbers) (due : ℕ) (last : Option WindowView) (inner : S) (xs : List SampleFacts)
    (windows : List Stretch) (rest : List Input) →
    All IsSample xs → IsCuttingFrom w due (map Sampled xs) windows rest →
    All (HasEnough w) windows →
    (fold (windowed_next rules) (emptied w due last inner) xs).inner
    ≡ fold rules.next inner (map (window_mean w) windows)

-- THE LAW of windows with too few: where no window has enough samples, the inner algorithm is as
-- it was
abbrev pub LearnsNothingFromFew : {S : Type 0} → Algorithm S → Type 0
LearnsNothingFromFew {S} rules =
    (w : WindowNumbers) (due : ℕ) (last : Option WindowView) (inner : S) (xs : List SampleFacts)
    (windows : List Stretch) (rest : List Input) →
    All IsSample xs → IsCuttingFrom w due (map Sampled xs) windows rest →
    All (HasTooFew w) windows →
    (fold (windowed_next rules) (emptied w due last inner) xs).inner ≡ inner
