-- What one input does to a state whose totals are those of a list.
use Rattle.std.proofs.Common.{◌≡◌, ℕ, ◌+◌, ◌≤◌, ◌<◌, ◌⊎◌, inl, inr, Bool, true, false, Option, Some, Result, Ok, Err, List, [], ◌∷◌, ◌++◌, All, length, refl, sym, ◌∙◌, ap, arith, length-append, nat_le, nat_lt, ◌||◌, if◌then◌else◌}
use Rattle.std.specs.Result.{result_unwrap_or}
use Rattle.std.proofs.lemmas.Bool.{lt-ltb, le-ltb, le-leb, lt-leb}
use Rattle.limit_laws.specs.declared.limit.SetFault.{SetFault}
use Rattle.limit_laws.specs.declared.view.WindowView.{WindowView}
use Rattle.limit_laws.specs.Facts.{SampleFacts, IsSample}
use Rattle.limit_laws.specs.Algorithm.{Algorithm}
use Rattle.windowed.specs.Totals.{totals, with_sample}
use Rattle.windowed.specs.Totals.{most_samples}
use Rattle.windowed.specs.declared.numbers.WindowNumbers.{WindowNumbers}
use Rattle.windowed.specs.WindowedRules.{WindowedState, windowed_rules, windowed_next, is_kept, end_of, update_after, mean_sample, in_range, with_inner, end_window, seen}
use Rattle.windowed.specs.Windows.{Input, Sampled, SetTo, after, run}
use Rattle.windowed.proofs.Totals.{totals_push, in_range-mean}

-- the state of these settings that is due at a moment, with the totals of a list
abbrev pub state_of : {S : Type 0} → WindowNumbers → ℕ → Option WindowView → S →
    List SampleFacts → WindowedState S
state_of w due last inner xs = record {
  inner = inner;
  totals = totals xs;
  last = last;
  next_update = due;
  settings = w;
}

-- what a window of these samples hands on as it ends
abbrev pub mean_of : WindowNumbers → List SampleFacts → SampleFacts → List Input
mean_of w xs x = if nat_le w.size (length xs) then Sampled (mean_sample (totals xs) x) ∷ [] else []

module _ {S : Type 0} (rules : Algorithm S) (w : WindowNumbers) (due : ℕ)
    (last : Option WindowView) (inner : S) (xs : List SampleFacts) where
  unwrap_inner : (s : WindowedState S) (r : Result S SetFault) →
      result_unwrap_or (with_inner s r) s ≡ record s { inner = result_unwrap_or r s.inner }
  unwrap_inner s (Ok t) = refl
  unwrap_inner s (Err fault) = refl

  pub after-set : (n : ℕ) →
      after (windowed_rules rules) (state_of w due last inner xs) (SetTo n)
      ≡ state_of w due last (after rules inner (SetTo n)) xs
  after-set n = unwrap_inner (state_of w due last inner xs) (rules.put inner n)

  pub next-left_out : (x : SampleFacts) → is_kept w x ≡ false →
      windowed_next rules (state_of w due last inner xs) x ≡ state_of w due last inner xs
  next-left_out x e = rw e

  pub next-added : (x : SampleFacts) → is_kept w x ≡ true → end_of x ≤ due →
      length xs + 1 < most_samples →
      windowed_next rules (state_of w due last inner xs) x
      ≡ state_of w due last inner (xs ++ x ∷ [])
  next-added x e early few =
      let in_time : nat_lt due (end_of x) ≡ false = le-ltb due (end_of x) early in
      let room : nat_le most_samples (length xs + 1) ≡ false =
      lt-leb most_samples (length xs + 1) few in
      rw (e, in_time, room)
      (ap (λ t. record (state_of w due last inner xs) { totals = t }) (sym (totals_push xs x)))

  run_mean : (enough : Bool) (m : SampleFacts) → in_range m ≡ m →
      (if enough then rules.next inner (in_range m) else inner)
      ≡ run rules inner (if enough then Sampled m ∷ [] else [])
  run_mean true m e = ap (rules.next inner) e
  run_mean false m e = refl

  ends_now : (x : SampleFacts) → (due < end_of x) ⊎ (length (xs ++ x ∷ []) ≡ most_samples) →
      (nat_lt due (end_of x) || nat_le most_samples (length xs + 1)) ≡ true
  ends_now x (inl late) = rw (lt-ltb due (end_of x) late)
  ends_now x (inr full) =
      let many : nat_le most_samples (length xs + 1) ≡ true =
      le-leb most_samples (length xs + 1) (omega (arith, simp length-append at full)) in
      either (nat_lt due (end_of x)) _ many
    where
      either : (a b : Bool) → b ≡ true → (a || b) ≡ true
      either true b e = refl
      either false b e = e

  pub next-ended : (x : SampleFacts) → is_kept w x ≡ true →
      (due < end_of x) ⊎ (length (xs ++ x ∷ []) ≡ most_samples) → All IsSample (xs ++ x ∷ []) →
      windowed_next rules (state_of w due last inner xs) x
      ≡ state_of w (update_after w (totals (xs ++ x ∷ [])) x)
      (Some (seen (totals (xs ++ x ∷ []))))
      (run rules inner (mean_of w (xs ++ x ∷ []) x)) []
  next-ended x e ends samples =
      let ys : List SampleFacts = xs ++ x ∷ [] in
      let s : WindowedState S = state_of w due last inner xs in
      let some : 0 < length ys = rw length-append (omega arith) in
      let mean =
      run_mean (nat_le w.size (length ys)) (mean_sample (totals ys) x)
      (in_range-mean ys x samples some) in
      let ended : windowed_next rules s x ≡ end_window rules s (with_sample (totals xs) x) x =
      rw (e, ends_now x ends) in
      ended ∙ ap (λ t. end_window rules s t x) (sym (totals_push xs x))
      ∙ ap (λ i. state_of w (update_after w (totals ys) x) (Some (seen (totals ys))) i []) mean
