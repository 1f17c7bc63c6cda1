-- How a limit over windows of Vegas comes up again, by the entries of a log.
use Rattle.std.proofs.Common.{◌≡◌, ◌+◌, ℕ, List, [], ◌∷◌, ◌++◌, All, fold, length, map, min}
use Rattle.std.proofs.Common.{refl, sym, ap, ◌∙◌, arith}
use Rattle.std.proofs.lemmas.List.Elements.{All-append, All-cons, All-nil}
use Rattle.limit_laws.specs.Facts.{IsSample, SampleFacts}
use Rattle.limit_laws.specs.Algorithm.{Algorithm}
use Rattle.vegas.specs.Queues.{RisesAtTheBase}
use Rattle.vegas.specs.VegasRules.{VegasState, vegas_next}
use Rattle.windowed.specs.Learning.{LearnsFromEachWindow, emptied}
use Rattle.windowed.specs.WindowedRules.{WindowedState, windowed_next}
use Rattle.windowed.specs.Windows.{window_mean}
use Rattle.limit_kinds.specs.declared.kinds.AnyLimit.{AnyLimit}
use Rattle.limit_kinds.specs.declared.kinds.AnyLimit.TheVariants.{Windowed}
use Rattle.limit_kinds.specs.declared.kinds.BaseLimit.{BaseLimit}
use Rattle.limit_kinds.specs.declared.kinds.BaseLimit.TheVariants.{Vegas}
use Rattle.limit_kinds.specs.AnyKinds.{any_limit, any_next}
use Rattle.limit_kinds.specs.Kinds.{base_next, base_rules}
use Rattle.limiter_core.specs.declared.event.Event.TheVariants as event
use Rattle.limiter_core.specs.declared.event.Outcome.{Outcome}
use Rattle.limiter_core.specs.declared.event.Outcome.TheVariants as outcome
use Rattle.limiter_core.specs.declared.event.PermitFacts.{PermitFacts}
use Rattle.limiter_core.specs.declared.event.Entry.{Entry}
use Rattle.limiter_core.specs.declared.event.Entry.TheVariants.{Call, Promotion}
use Rattle.limiter_core.specs.History.{ending_samples, image_after}
use Rattle.limiter_core.specs.History.{state_after_entry}
use Rattle.gate_laws.specs.Recovery.{AreUnset, RecoversAtTheBase, samples_in}

folds : {S X : Type 0} (f : S → X → S) (s : S) (xs ys : List X)
    → fold f s (xs ++ ys) ≡ fold f (fold f s xs) ys
folds f s [] ys = refl
folds f s (x ∷ xs) ys = folds f (f s x) xs ys

-- over entries that set nothing the state learns from their samples alone
module _ {S : Type 0} (rules : Algorithm S) where
  over_samples : (s : S) (t : List Entry) → AreUnset t
      → fold (state_after_entry rules) s t ≡ fold rules.next s (samples_in t)
  over_samples s [] unset = refl
  over_samples s (Call (event.End permit outcome now) r ∷ t) unset =
      over_samples (fold rules.next s (ending_samples permit outcome now)) t unset
      ∙ sym (folds rules.next s (ending_samples permit outcome now) (samples_in t))
  over_samples s (Call (event.SetLimit n now) r ∷ t) unset = absurd unset
  over_samples s (Call (event.Reset now) r ∷ t) unset = absurd unset
  over_samples s (Call (event.Acquire part bypass wait now) r ∷ t) unset = over_samples s t unset
  over_samples s (Call (event.Claim number) r ∷ t) unset = over_samples s t unset
  over_samples s (Call (event.GiveUp number) r ∷ t) unset = over_samples s t unset
  over_samples s (Call (event.Look part) r ∷ t) unset = over_samples s t unset
  over_samples s (Promotion waiter part start inflight ∷ t) unset = over_samples s t unset

-- each of them is a sample
one_sample : (permit : PermitFacts) (o : Outcome) (now : ℕ)
    → All IsSample (ending_samples permit o now)
one_sample permit outcome.Success now =
    All-cons IsSample _ [] (record { start = omega arith; least = omega arith; most = omega arith })
    (All-nil IsSample)
one_sample permit outcome.Dropped now =
    All-cons IsSample _ [] (record { start = omega arith; least = omega arith; most = omega arith })
    (All-nil IsSample)
one_sample permit outcome.Ignored now = All-nil IsSample

are_samples : (t : List Entry) → All IsSample (samples_in t)
are_samples [] = All-nil IsSample
are_samples (Call (event.End permit outcome now) r ∷ t) =
    All-append IsSample (ending_samples permit outcome now) (samples_in t)
    (one_sample permit outcome now) (are_samples t)
are_samples (Call (event.SetLimit n now) r ∷ t) = are_samples t
are_samples (Call (event.Reset now) r ∷ t) = are_samples t
are_samples (Call (event.Acquire part bypass wait now) r ∷ t) = are_samples t
are_samples (Call (event.Claim number) r ∷ t) = are_samples t
are_samples (Call (event.GiveUp number) r ∷ t) = are_samples t
are_samples (Call (event.Look part) r ∷ t) = are_samples t
are_samples (Promotion waiter part start inflight ∷ t) = are_samples t

-- a limit over windows stays one, and so does one of Vegas
over_windows : (s : WindowedState BaseLimit) (xs : List SampleFacts)
    → fold any_next (Windowed s) xs ≡ Windowed (fold (windowed_next base_rules) s xs)
over_windows s [] = refl
over_windows s (x ∷ xs) = over_windows (windowed_next base_rules s x) xs

of_vegas : (v : VegasState) (xs : List SampleFacts)
    → fold base_next (Vegas v) xs ≡ Vegas (fold vegas_next v xs)
of_vegas v [] = refl
of_vegas v (x ∷ xs) = of_vegas (vegas_next v x) xs

mapped : {X Y : Type 0} (f : X → Y) (xs : List X) → length (map f xs) ≡ length xs
mapped f [] = refl
mapped f (x ∷ xs) = omega (arith, mapped f xs)

pub recovers : LearnsFromEachWindow base_rules → RisesAtTheBase → RecoversAtTheBase
recovers learns rises g o h t w due last v base windows rules state within alpha is_base unset
    full =
    let xs = samples_in t in
    let means = map (window_mean w) windows in
    let from : WindowedState BaseLimit = emptied w due last (Vegas v) in
    let after : (image_after g o (h ++ t)).state ≡ fold any_next (Windowed from) xs =
    folds (state_after_entry g.rules) o.state h t
    ∙ ap (λ (s : AnyLimit). fold (state_after_entry g.rules) s t) state
    ∙ over_samples g.rules (Windowed from) t unset
    ∙ ap (λ (r : Algorithm AnyLimit). fold r.next (Windowed from) xs) rules in
    let inner : (fold (windowed_next base_rules) from xs).inner ≡ Vegas (fold vegas_next v means) =
    learns w due last (Vegas v) xs windows full.rest (are_samples t) full.cut full.enough
    ∙ of_vegas v means in
    ap (λ (r : Algorithm AnyLimit). r.limit (image_after g o (h ++ t)).state) rules
    ∙ ap any_limit (after ∙ over_windows from xs)
    ∙ ap base_rules.limit inner
    ∙ rises v base means within alpha is_base full.no_probe full.at_base full.in_use
    ∙ ap (λ (n : ℕ). min v.hi (v.limit + n)) (mapped (window_mean w) windows)
