-- What windows teach the inner algorithm, where all that comes are samples.
use Rattle.std.proofs.Common.{◌≡◌, ℕ, inl, inr, List, [], ◌∷◌, ◌++◌, All, Option, length, filter, fold, map, refl, sym, ◌∙◌, ap, subst, arith, append_assoc, nat_le, if◌then◌else◌}
use Rattle.std.specs.List.{flat_map}
use Rattle.std.proofs.lemmas.Bool.{cases_Bool, le-leb, lt-leb}
use Rattle.std.proofs.lemmas.List.Elements.{All-head, All-tail, All-cons, filter-append}
use Rattle.std.proofs.lemmas.List.Folds.{fold-map}
use Rattle.limit_laws.specs.declared.view.WindowView.{WindowView}
use Rattle.limit_laws.specs.Facts.{SampleFacts, IsSample}
use Rattle.limit_laws.specs.Algorithm.{Algorithm}
use Rattle.windowed.specs.declared.numbers.WindowNumbers.{WindowNumbers}
use Rattle.windowed.specs.WindowedRules.{windowed_rules, windowed_next, is_kept}
use Rattle.windowed.specs.Windows.{Input, Sampled, after, run, is_setting, Stretch, samples_of, inputs_of, window_samples, window_mean, handed_on, IsCuttingFrom}
use Rattle.windowed.specs.Learning.{HasEnough, HasTooFew, emptied, LearnsFromEachWindow, LearnsNothingFromFew}
use Rattle.windowed.proofs.InnerRuns.{run_windows}

no_settings : (xs : List SampleFacts) → filter is_setting (map Sampled xs) ≡ []
no_settings [] = refl
no_settings (x ∷ xs) = no_settings xs

nil_parts : {X : Type 0} (xs ys : List X) → xs ++ ys ≡ [] → (xs ≡ []) × (ys ≡ [])
nil_parts [] ys e = (refl, e)
nil_parts (x ∷ xs) ys e = absurd (omega (arith, ap length e))

module _ (w : WindowNumbers) where
  samples_kept : (xs : List SampleFacts) → All IsSample xs →
      All IsSample (samples_of w (map Sampled xs))
  samples_kept [] all = all
  samples_kept (x ∷ xs) all =
      let rest = samples_kept xs (All-tail IsSample x xs all) in
      elim (cases_Bool (is_kept w x)) [
        | inl e ↦
            rw e (All-cons IsSample x (samples_of w (map Sampled xs))
            (All-head IsSample x xs all) rest)
        | inr e ↦ rw e rest
      ]

  -- what a window teaches: its mean sample, where it has enough
  abbrev taught : Stretch → List Input
  taught s =
      if nat_le w.size (length (window_samples w s)) then Sampled (window_mean w s) ∷ [] else []

  -- without settings that is all that windows hand on
  told : (windows : List Stretch) (rest : List Input) →
      filter is_setting (flat_map inputs_of windows ++ rest) ≡ [] →
      flat_map (handed_on w) windows ++ filter is_setting rest ≡ flat_map taught windows
  told [] rest none = none
  told (s ∷ windows) rest none =
      let later : List Input = flat_map inputs_of windows ++ rest in
      let parts =
      nil_parts (filter is_setting (inputs_of s)) (filter is_setting later)
      (sym (filter-append is_setting (inputs_of s) later)
      ∙ ap (filter is_setting) (sym (append_assoc (inputs_of s) (flat_map inputs_of windows) rest))
      ∙ none) in
      let before =
      nil_parts (filter is_setting s.before) []
      (sym (filter-append is_setting s.before (Sampled s.last ∷ [])) ∙ parts.0) in
      append_assoc (handed_on w s) (flat_map (handed_on w) windows) (filter is_setting rest)
      ∙ ap (λ ys. handed_on w s ++ ys) (told windows rest parts.1)
      ∙ ap (λ ys. (ys ++ taught s) ++ flat_map taught windows) before.0

  each_taught : (windows : List Stretch) → All (HasEnough w) windows →
      flat_map taught windows ≡ map (λ s. Sampled (window_mean w s)) windows
  each_taught [] all = refl
  each_taught (s ∷ windows) all =
      rw (le-leb w.size (length (window_samples w s)) (All-head (HasEnough w) s windows all))
      (ap (λ ys. Sampled (window_mean w s) ∷ ys)
      (each_taught windows (All-tail (HasEnough w) s windows all)))

  none_taught : (windows : List Stretch) → All (HasTooFew w) windows →
      flat_map taught windows ≡ []
  none_taught [] all = refl
  none_taught (s ∷ windows) all =
      rw (lt-leb w.size (length (window_samples w s)) (All-head (HasTooFew w) s windows all))
      (none_taught windows (All-tail (HasTooFew w) s windows all))

module _ {S : Type 0} (rules : Algorithm S) where
  learned : (w : WindowNumbers) (due : ℕ) (last : Option WindowView) (inner : S)
      (xs : List SampleFacts) (windows : List Stretch) (rest : List Input) → All IsSample xs →
      IsCuttingFrom w due (map Sampled xs) windows rest →
      (fold (windowed_next rules) (emptied w due last inner) xs).inner
      ≡ run rules inner (flat_map (taught w) windows)
  learned w due last inner xs windows rest samples cutting =
      let all : All IsSample (samples_of w (flat_map inputs_of windows ++ rest)) =
      subst (λ ys. All IsSample (samples_of w ys)) cutting.whole (samples_kept w xs samples) in
      let none : filter is_setting (flat_map inputs_of windows ++ rest) ≡ [] =
      ap (filter is_setting) (sym cutting.whole) ∙ no_settings xs in
      let ran =
      run_windows rules w due last inner windows rest cutting.each cutting.none_after all in
      ap (λ s. s.inner)
      (sym (fold-map (after (windowed_rules rules)) Sampled (emptied w due last inner) xs)
      ∙ ap (run (windowed_rules rules) (emptied w due last inner)) cutting.whole
      ∙ ran)
      ∙ ap (run rules inner) (told w windows rest none)

  pub learns_from_each : LearnsFromEachWindow rules
  learns_from_each w due last inner xs windows rest samples cutting all =
      learned w due last inner xs windows rest samples cutting
      ∙ ap (run rules inner) (each_taught w windows all)
      ∙ fold-map (after rules) (λ s. Sampled (window_mean w s)) inner windows
      ∙ sym (fold-map rules.next (window_mean w) inner windows)

  pub learns_nothing : LearnsNothingFromFew rules
  learns_nothing w due last inner xs windows rest samples cutting all =
      learned w due last inner xs windows rest samples cutting
      ∙ ap (run rules inner) (none_taught w windows all)
