-- Every list of inputs is cut into windows and a rest.
use Rattle.std.proofs.Common.{◌≡◌, ℕ, ◌+◌, ◌≤◌, ◌<◌, inl, inr, true, false, None, List, [], ◌∷◌, ◌++◌, length, refl, sym, ◌∙◌, ap, subst, arith, append_assoc, append-nil, length-append}
use Rattle.std.specs.List.{flat_map}
use Rattle.std.proofs.lemmas.Bool.{cases_lt, cases_Bool, leb-true}
use Rattle.std.proofs.lemmas.List.Elements.{All-push, All-nil, filter_map-append}
use Rattle.limit_laws.specs.Facts.{SampleFacts}
use Rattle.windowed.specs.Totals.{most_samples}
use Rattle.windowed.specs.declared.numbers.WindowNumbers.{WindowNumbers}
use Rattle.windowed.specs.WindowedRules.{is_kept, end_of}
use Rattle.windowed.specs.Windows.{Input, Sampled, SetTo, Stretch, samples_of, kept_sample, inputs_of, window_samples, StaysOpen, IsWindow, AreWindows, due_after, due_after_all, CutsIntoWindows}
use Rattle.windowed.specs.Learning.{CutsFromAnyMoment}

-- the samples of a list and one more input
pub samples_of_kept : (w : WindowNumbers) (before : List Input) (x : SampleFacts) →
    is_kept w x ≡ true → samples_of w (before ++ Sampled x ∷ []) ≡ samples_of w before ++ x ∷ []
samples_of_kept w before x e =
    let last : samples_of w (Sampled x ∷ []) ≡ x ∷ [] = rw e in
    filter_map-append (kept_sample w) before (Sampled x ∷ [])
    ∙ ap (λ ys. samples_of w before ++ ys) last

pub samples_of_other : (w : WindowNumbers) (before : List Input) (i : Input) →
    kept_sample w i ≡ None → samples_of w (before ++ i ∷ []) ≡ samples_of w before
samples_of_other w before i e =
    let last : samples_of w (i ∷ []) ≡ [] = rw e in
    filter_map-append (kept_sample w) before (i ∷ []) ∙ ap (λ ys. samples_of w before ++ ys) last
    ∙ append-nil (samples_of w before)

pub no_sample : (w : WindowNumbers) (x : SampleFacts) → is_kept w x ≡ false →
    kept_sample w (Sampled x) ≡ None
no_sample w x e = rw e

nothing_open : (w : WindowNumbers) (due : ℕ) → StaysOpen w due []
nothing_open w due = record { none_late = All-nil (λ x. end_of x ≤ due); few = omega arith }

-- with one more input that doesn't count
open_other : (w : WindowNumbers) (due : ℕ) (before : List Input) (i : Input) →
    kept_sample w i ≡ None → StaysOpen w due before → StaysOpen w due (before ++ i ∷ [])
open_other w due before i e o = record {
  none_late = rw (samples_of_other w before i e) o.none_late;
  few = rw (samples_of_other w before i e) o.few;
}

-- with one more sample that counts
open_kept : (w : WindowNumbers) (due : ℕ) (before : List Input) (x : SampleFacts) →
    is_kept w x ≡ true → end_of x ≤ due → length (samples_of w before) + 1 < most_samples →
    StaysOpen w due before →
    StaysOpen w due (before ++ Sampled x ∷ [])
open_kept w due before x e early few o = record {
  none_late =
      rw (samples_of_kept w before x e)
      (All-push (λ y. end_of y ≤ due) (samples_of w before) x o.none_late early);
  few = rw (samples_of_kept w before x e, length-append) few;
}

record CutFrom (w : WindowNumbers) (due : ℕ) (inputs : List Input) : Type 0 where
  windows : List Stretch
  rest : List Input
  whole : inputs ≡ flat_map inputs_of windows ++ rest
  each : AreWindows w due windows
  none_after : StaysOpen w (due_after_all w due windows) rest

more_before : (w : WindowNumbers) (due : ℕ) (before : List Input) (i : Input)
    (inputs : List Input) →
    CutFrom w due ((before ++ i ∷ []) ++ inputs) → CutFrom w due (before ++ i ∷ inputs)
more_before w due before i inputs c = subst (CutFrom w due) (append_assoc before (i ∷ []) inputs) c

-- a window and what comes after it
window_first : (w : WindowNumbers) (due : ℕ) (before : List Input) (x : SampleFacts)
    (inputs : List Input) →
    (let s : Stretch = record { before = before; last = x } in
    IsWindow w due s → CutFrom w (due_after w s) inputs →
    CutFrom w due (before ++ Sampled x ∷ inputs))
window_first w due before x inputs is c =
    let s : Stretch = record { before = before; last = x } in
    record {
      windows = s ∷ c.windows;
      rest = c.rest;
      whole =
          sym (append_assoc before (Sampled x ∷ []) inputs) ∙ ap (λ ys. inputs_of s ++ ys) c.whole
          ∙ sym (append_assoc (inputs_of s) (flat_map inputs_of c.windows) c.rest);
      each = (is, c.each);
      none_after = c.none_after;
    }

cut : (w : WindowNumbers) (due : ℕ) (before inputs : List Input) → StaysOpen w due before →
    CutFrom w due (before ++ inputs)
cut w due before [] o = record {
  windows = [];
  rest = before;
  whole = append-nil before;
  each = tt;
  none_after = o;
}
cut w due before (SetTo n ∷ inputs) o =
    more_before w due before (SetTo n) inputs
    (cut w due (before ++ SetTo n ∷ []) inputs (open_other w due before (SetTo n) refl o))
cut w due before (Sampled x ∷ inputs) o = elim (cases_Bool (is_kept w x)) [
  | inr e ↦
      more_before w due before (Sampled x) inputs (cut w due (before ++ Sampled x ∷ []) inputs
      (open_other w due before (Sampled x) (no_sample w x e) o))
  | inl e ↦
      let s : Stretch = record { before = before; last = x } in
      let kept : w.min_rtt_ns ≤ x.rtt = leb-true w.min_rtt_ns x.rtt e in
      elim (cases_lt due (end_of x)) [
        | inl late ↦
            window_first w due before x inputs
            (record { none_before = o; kept = kept; ends = inl late })
            (cut w (due_after w s) [] inputs (nothing_open w (due_after w s)))
        | inr early ↦ elim (cases_lt (length (samples_of w before) + 1) most_samples) [
          | inl few ↦
              more_before w due before (Sampled x) inputs (cut w due (before ++ Sampled x ∷ [])
              inputs (open_kept w due before x e early few o))
          | inr many ↦
              let full : length (window_samples w s) ≡ most_samples =
              rw length-append (omega (arith, o.few, many)) in
              window_first w due before x inputs
              (record { none_before = o; kept = kept; ends = inr full })
              (cut w (due_after w s) [] inputs (nothing_open w (due_after w s)))
        ]
      ]
]

pub cuts_from : CutsFromAnyMoment
cuts_from w due inputs =
    let c = cut w due [] inputs (nothing_open w due) in
    (c.windows, (c.rest, record { whole = c.whole; each = c.each; none_after = c.none_after }))

pub cuts : CutsIntoWindows
cuts w inputs = cuts_from w 0 inputs
