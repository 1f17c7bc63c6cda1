-- The inner algorithm runs over what the windows hand on.
use Rattle.std.proofs.Common.{◌≡◌, ℕ, ◌+◌, ◌≤◌, ◌<◌, inl, inr, Option, Some, None, List, [], ◌∷◌, ◌++◌, All, length, filter, sym, ◌∙◌, ap, subst, arith, append_assoc, append-nil, length-append}
use Rattle.std.specs.List.{flat_map}
use Rattle.std.proofs.lemmas.Bool.{cases_Bool, le-leb}
use Rattle.std.proofs.lemmas.List.Elements.{All-head, All-tail, filter_map-append}
use Rattle.std.proofs.lemmas.List.Sums.{fold-append}
use Rattle.limit_laws.specs.declared.view.WindowView.{WindowView}
use Rattle.limit_laws.specs.Facts.{SampleFacts, IsSample}
use Rattle.limit_laws.specs.Algorithm.{Algorithm}
use Rattle.windowed.specs.Totals.{most_samples, totals}
use Rattle.windowed.specs.declared.numbers.WindowNumbers.{WindowNumbers}
use Rattle.windowed.specs.WindowedRules.{opened, windowed_rules, windowed_next, is_kept, end_of, seen}
use Rattle.windowed.specs.Windows.{Input, Sampled, SetTo, after, run, is_setting, kept_sample, Stretch, samples_of, inputs_of, window_samples, handed_on, StaysOpen, IsWindow, AreWindows, due_after, due_after_all, last_seen, InnerRunsOverWindows}
use Rattle.windowed.proofs.Totals.{all_left, all_right}
use Rattle.windowed.proofs.Cuttings.{samples_of_kept, no_sample}
use Rattle.windowed.proofs.Steps.{state_of, after-set, next-left_out, next-added, next-ended}

module _ {S : Type 0} (rules : Algorithm S) (w : WindowNumbers) where
  -- inputs that end no window: the settings are passed on, and the samples gathered
  run_open : (due : ℕ) (last : Option WindowView) (inner : S) (xs : List SampleFacts)
      (inputs : List Input) →
      All (λ x. end_of x ≤ due) (samples_of w inputs) →
      length xs + length (samples_of w inputs) < most_samples →
      run (windowed_rules rules) (state_of w due last inner xs) inputs
      ≡ state_of w due last (run rules inner (filter is_setting inputs))
      (xs ++ samples_of w inputs)
  run_open due last inner xs [] early few = ap (state_of w due last inner) (sym (append-nil xs))
  run_open due last inner xs (SetTo n ∷ inputs) early few =
      ap (λ s. run (windowed_rules rules) s inputs) (after-set rules w due last inner xs n)
      ∙ run_open due last (after rules inner (SetTo n)) xs inputs early few
  run_open due last inner xs (Sampled x ∷ inputs) early few = elim (cases_Bool (is_kept w x)) [
    | inr e ↦
        let same : samples_of w (Sampled x ∷ inputs) ≡ samples_of w inputs = rw (no_sample w x e) in
        ap (λ s. run (windowed_rules rules) s inputs) (next-left_out rules w due last inner xs x e)
        ∙ run_open due last inner xs inputs (rw same at early) (rw same at few)
        ∙ ap (λ ys. state_of w due last (run rules inner (filter is_setting inputs)) (xs ++ ys))
        (sym same)
    | inl e ↦
        let more : samples_of w (Sampled x ∷ inputs) ≡ x ∷ samples_of w inputs = rw e in
        let early' = rw more at early in
        let few' = rw more at few in
        ap (λ s. run (windowed_rules rules) s inputs) (next-added rules w due last inner xs x e
        (All-head (λ x. end_of x ≤ due) x (samples_of w inputs) early') (omega (arith, few')))
        ∙ run_open due last inner (xs ++ x ∷ []) inputs
        (All-tail (λ x. end_of x ≤ due) x (samples_of w inputs) early')
        (rw length-append (omega (arith, few')))
        ∙ ap (state_of w due last (run rules inner (filter is_setting inputs)))
        (append_assoc xs (x ∷ []) (samples_of w inputs) ∙ ap (λ ys. xs ++ ys) (sym more))
  ]

  -- a window: its settings and its mean sample are passed on, and the next one is empty
  run_window : (due : ℕ) (last : Option WindowView) (inner : S) (s : Stretch) → IsWindow w due s →
      All IsSample (window_samples w s) →
      run (windowed_rules rules) (state_of w due last inner []) (inputs_of s)
      ≡ state_of w (due_after w s) (Some (seen (totals (window_samples w s))))
      (run rules inner (handed_on w s)) []
  run_window due last inner s is samples =
      let settings : List Input = filter is_setting s.before in
      let before =
      run_open due last inner [] s.before is.none_before.none_late
      (omega (arith, is.none_before.few)) in
      let ended =
      next-ended rules w due last (run rules inner settings) (samples_of w s.before) s.last
      (le-leb w.min_rtt_ns s.last.rtt is.kept) is.ends samples in
      fold-append (after (windowed_rules rules)) (state_of w due last inner []) s.before
      (Sampled s.last ∷ [])
      ∙ ap (λ t. windowed_next rules t s.last) before
      ∙ ended
      ∙ ap (λ i. state_of w (due_after w s) (Some (seen (totals (window_samples w s)))) i [])
      (sym (fold-append (after rules) inner settings _))

  window_inputs : (due : ℕ) (s : Stretch) → IsWindow w due s →
      samples_of w (inputs_of s) ≡ window_samples w s
  window_inputs due s is =
      samples_of_kept w s.before s.last (le-leb w.min_rtt_ns s.last.rtt is.kept)

  pub run_windows : (due : ℕ) (last : Option WindowView) (inner : S) (windows : List Stretch)
      (rest : List Input) →
      AreWindows w due windows → StaysOpen w (due_after_all w due windows) rest →
      All IsSample (samples_of w (flat_map inputs_of windows ++ rest)) →
      run (windowed_rules rules) (state_of w due last inner []) (flat_map inputs_of windows ++ rest)
      ≡ state_of w (due_after_all w due windows) (last_seen w last windows)
      (run rules inner (flat_map (handed_on w) windows ++ filter is_setting rest))
      (samples_of w rest)
  run_windows due last inner [] rest each after_it samples =
      run_open due last inner [] rest after_it.none_late (omega (arith, after_it.few))
  run_windows due last inner (s ∷ windows) rest each after_it samples =
      let later : List Input = flat_map inputs_of windows ++ rest in
      let parts : (inputs_of s ++ flat_map inputs_of windows) ++ rest ≡ inputs_of s ++ later =
      append_assoc (inputs_of s) (flat_map inputs_of windows) rest in
      let split : samples_of w (inputs_of s ++ later) ≡ window_samples w s ++ samples_of w later =
      filter_map-append (kept_sample w) (inputs_of s) later
      ∙ ap (λ ys. ys ++ samples_of w later) (window_inputs due s each.0) in
      let all : All IsSample (window_samples w s ++ samples_of w later) =
      subst (All IsSample) (ap (samples_of w) parts ∙ split) samples in
      let first =
      run_window due last inner s each.0 (all_left (window_samples w s) (samples_of w later) all) in
      let rest_of =
      run_windows (due_after w s) (Some (seen (totals (window_samples w s))))
      (run rules inner (handed_on w s)) windows rest each.1
      after_it (all_right (window_samples w s) (samples_of w later) all) in
      let passed : List Input = flat_map (handed_on w) windows ++ filter is_setting rest in
      let joined : (handed_on w s ++ flat_map (handed_on w) windows) ++ filter is_setting rest
      ≡ handed_on w s ++ passed =
      append_assoc (handed_on w s) (flat_map (handed_on w) windows) (filter is_setting rest) in
      let inner_joined : run rules (run rules inner (handed_on w s)) passed
      ≡ run rules inner
      ((handed_on w s ++ flat_map (handed_on w) windows) ++ filter is_setting rest) =
      sym (ap (run rules inner) joined ∙ fold-append (after rules) inner (handed_on w s) passed) in
      ap (run (windowed_rules rules) (state_of w due last inner [])) parts
      ∙ fold-append (after (windowed_rules rules)) (state_of w due last inner []) (inputs_of s)
      later
      ∙ ap (λ t. run (windowed_rules rules) t later) first
      ∙ rest_of
      ∙ ap (λ i. state_of w (due_after_all w due (s ∷ windows)) (last_seen w last (s ∷ windows)) i
      (samples_of w rest)) inner_joined

pub inner_runs : {S : Type 0} (rules : Algorithm S) → InnerRunsOverWindows rules
inner_runs rules w inner inputs windows rest samples cutting =
    let all : All IsSample (samples_of w (flat_map inputs_of windows ++ rest)) =
    subst (λ ys. All IsSample (samples_of w ys)) cutting.whole samples in
    ap (run (windowed_rules rules) (opened w inner)) cutting.whole
    ∙ run_windows rules w 0 None inner windows rest cutting.each cutting.none_after all
