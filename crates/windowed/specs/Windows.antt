-- Windows, as a cutting of a whole list of samples and settings.
use Rattle.std.specs.Prelude.{◌≡◌, ℕ, ◌≤◌, ◌<◌, ◌⊎◌, Bool, true, false, Option, Some, None, List, [], ◌∷◌, ◌++◌, All, length, fold, filter, nat_le, if◌then◌else◌}
use Rattle.std.specs.List.{filter_map, flat_map}
use Rattle.std.specs.Result.{result_unwrap_or}
use Rattle.limit_laws.specs.declared.view.WindowView.{WindowView}
use Rattle.limit_laws.specs.Facts.{SampleFacts, IsSample}
use Rattle.limit_laws.specs.Algorithm.{Algorithm}
use Rattle.windowed.specs.Totals.{totals, most_samples}
use Rattle.windowed.specs.declared.numbers.WindowNumbers.{WindowNumbers}
use Rattle.windowed.specs.WindowedRules.{opened, windowed_rules, is_kept, end_of, update_after, mean_sample, seen}

-- what an algorithm is told: a sample, or a setting by hand
pub data Input : Type 0 where
  Sampled : SampleFacts → Input
  SetTo : ℕ → Input

-- the state after one more input; a setting that is refused changes nothing
abbrev pub after : {S : Type 0} → Algorithm S → S → Input → S
after rules s (Sampled x) = rules.next s x
after rules s (SetTo n) = result_unwrap_or (rules.put s n) s

-- the state after a list of inputs
abbrev pub run : {S : Type 0} → Algorithm S → S → List Input → S
run rules s inputs = fold (after rules) s inputs

abbrev pub is_setting : Input → Bool
is_setting (Sampled x) = false
is_setting (SetTo n) = true

abbrev pub kept_sample : WindowNumbers → Input → Option SampleFacts
kept_sample w (Sampled x) = if is_kept w x then Some x else None
kept_sample w (SetTo n) = None

-- the samples that count
abbrev pub samples_of : WindowNumbers → List Input → List SampleFacts
samples_of w inputs = filter_map (kept_sample w) inputs

-- a window: its inputs, the sample that ends it being the last
pub record Stretch : Type 0 where
  pub before : List Input
  pub last : SampleFacts

abbrev pub inputs_of : Stretch → List Input
inputs_of s = s.before ++ Sampled s.last ∷ []

-- the samples of a window that count
abbrev pub window_samples : WindowNumbers → Stretch → List SampleFacts
window_samples w s = samples_of w s.before ++ s.last ∷ []

-- no sample ends the window: none of them ended after the due moment, and there are fewer than
-- 1,000,000
pub record StaysOpen (w : WindowNumbers) (due : ℕ) (inputs : List Input) : Type 0 where
  pub none_late : All (λ x. end_of x ≤ due) (samples_of w inputs)
  pub few : length (samples_of w inputs) < most_samples

-- a window ends at its first sample that ended after the due moment, or at its 1,000,000th
pub record IsWindow (w : WindowNumbers) (due : ℕ) (s : Stretch) : Type 0 where
  pub none_before : StaysOpen w due s.before
  pub kept : w.min_rtt_ns ≤ s.last.rtt
  pub ends : (due < end_of s.last) ⊎ (length (window_samples w s) ≡ most_samples)

-- the due moment of the window after this one
abbrev pub due_after : WindowNumbers → Stretch → ℕ
due_after w s = update_after w (totals (window_samples w s)) s.last

-- the due moment after windows, the first of which had this one
abbrev pub due_after_all : WindowNumbers → ℕ → List Stretch → ℕ
due_after_all w due windows = fold (λ _ s. due_after w s) due windows

-- what the last of these windows is shown as; before the first this was
abbrev pub last_seen : WindowNumbers → Option WindowView → List Stretch → Option WindowView
last_seen w before windows =
    fold (λ _ s. Some (seen (totals (window_samples w s)))) before windows

-- each is a window by the due moment that the one before it leaves
abbrev pub AreWindows : WindowNumbers → ℕ → List Stretch → Type 0
AreWindows w due [] = Unit {0}
AreWindows w due (s ∷ windows) = IsWindow w due s × AreWindows w (due_after w s) windows

-- the inputs are cut into windows, the first of which is due at this moment, and a rest that is
-- still open
pub record IsCuttingFrom (w : WindowNumbers) (due : ℕ) (inputs : List Input)
    (windows : List Stretch) (rest : List Input) : Type 0 where
  pub whole : inputs ≡ flat_map inputs_of windows ++ rest
  pub each : AreWindows w due windows
  pub none_after : StaysOpen w (due_after_all w due windows) rest

-- the first window of all is due at 0
abbrev pub IsCutting : WindowNumbers → List Input → List Stretch → List Input → Type 0
IsCutting w inputs windows rest = IsCuttingFrom w 0 inputs windows rest

-- the mean sample of a window
abbrev pub window_mean : WindowNumbers → Stretch → SampleFacts
window_mean w s = mean_sample (totals (window_samples w s)) s.last

-- what a window hands on: its settings, and its mean sample where it has enough samples
abbrev pub handed_on : WindowNumbers → Stretch → List Input
handed_on w s =
    filter is_setting s.before
    ++ (if nat_le w.size (length (window_samples w s)) then Sampled (window_mean w s) ∷ [] else [])

-- THE LAW of cuttings: every list of inputs has one
abbrev pub CutsIntoWindows : Type 0
CutsIntoWindows =
    (w : WindowNumbers) (inputs : List Input) →
    (windows : List Stretch) × ((rest : List Input) × IsCutting w inputs windows rest)

-- THE LAW of windows: from an empty window on, the inner algorithm is where its own run over
-- what the windows hand on leads, the totals are those of the rest, and the last of the windows is
-- shown
abbrev pub InnerRunsOverWindows : {S : Type 0} → Algorithm S → Type 0
InnerRunsOverWindows {S} rules =
    (w : WindowNumbers) (inner : S) (inputs : List Input) (windows : List Stretch)
    (rest : List Input) →
    All IsSample (samples_of w inputs) → IsCutting w inputs windows rest →
    run (windowed_rules rules) (opened w inner) inputs ≡ record {
      inner = run rules inner (flat_map (handed_on w) windows ++ filter is_setting rest);
      totals = totals (samples_of w rest);
      last = last_seen w None windows;
      next_update = due_after_all w 0 windows;
      settings = w;
    }
