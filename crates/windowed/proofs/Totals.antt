-- The totals of a list with one more sample, and the range of a mean.
use Rattle.std.proofs.Common.{◌≡◌, ℕ, ◌*◌, ◌/◌, ◌≤◌, ◌<◌, List, [], ◌∷◌, ◌++◌, All, length, sum_by, min, max, refl, arith, ap, nat_eq, if◌then◌else◌}
use Rattle.std.specs.List.{AllByRecursion}
use Rattle.std.proofs.Math.Nat.{div-le_of_le-mul}
use Rattle.std.proofs.lemmas.Nat.{le-div}
use Rattle.std.proofs.lemmas.Grind.{common_steps}
use Rattle.std.proofs.lemmas.Bool.Decides.{nat_tests}
use Rattle.std.proofs.lemmas.List.Sums.{sum_by-cons, sum_by-le, fold_push}
use Rattle.std.proofs.lemmas.List.Elements.{All-weaker, All-head, All-tail, recursion_from_All, All-from_recursion}
use Rattle.limit_laws.specs.Facts.{SampleFacts, IsSample, hour}
use Rattle.windowed.specs.Totals.{totals, with_sample, least_rtt}
use Rattle.windowed.specs.WindowedRules.{mean_sample, in_range}

least_rtt_push : (xs : List SampleFacts) (x : SampleFacts) →
    least_rtt (xs ++ x ∷ []) ≡ (if nat_eq (length xs) 0 then x.rtt else min (least_rtt xs) x.rtt)
least_rtt_push [] x = refl
least_rtt_push (y ∷ ys) x = grind (arith, nat_tests, fold_push)

pub totals_push : (xs : List SampleFacts) (x : SampleFacts) →
    totals (xs ++ x ∷ []) ≡ with_sample (totals xs) x
totals_push xs x = grind (arith, common_steps, least_rtt_push xs x)

sum_least : (xs : List SampleFacts) → All IsSample xs → length xs ≤ sum_by (λ x. x.rtt) xs
sum_least [] all = omega arith
sum_least (x ∷ xs) all =
    let rest = sum_least xs (All-tail IsSample x xs all) in
    omega (
      arith,
      rest,
      (All-head IsSample x xs all).least,
      sum_by-cons (λ (x : SampleFacts). x.rtt) x xs,
    )

-- a mean of samples is in the range of samples
pub in_range-mean : (xs : List SampleFacts) (x : SampleFacts) → All IsSample xs → 0 < length xs →
    in_range (mean_sample (totals xs) x) ≡ mean_sample (totals xs) x
in_range-mean xs x all some =
    let sum : ℕ = sum_by (λ x. x.rtt) xs in
    let least : 1 ≤ sum / length xs =
    le-div 1 sum (length xs) some (omega (arith, sum_least xs all)) in
    let total : sum ≤ length xs * hour =
    sum_by-le (λ x. x.rtt) hour xs
    (All-weaker IsSample (λ x. x.rtt ≤ hour) (λ x i. i.most) xs all) in
    let most : sum / length xs ≤ hour = div-le_of_le-mul (length xs) total in
    let same : min (max (sum / length xs) 1) hour ≡ sum / length xs = omega (arith, least, most) in
    ap (λ rtt. record (mean_sample (totals xs) x) { rtt = rtt }) same

all_left_by_recursion : (xs ys : List SampleFacts) → AllByRecursion IsSample (xs ++ ys) →
    AllByRecursion IsSample xs
all_left_by_recursion [] ys all = tt
all_left_by_recursion (x ∷ xs) ys all = (all.0, all_left_by_recursion xs ys all.1)

all_right_by_recursion : (xs ys : List SampleFacts) → AllByRecursion IsSample (xs ++ ys) →
    AllByRecursion IsSample ys
all_right_by_recursion [] ys all = all
all_right_by_recursion (x ∷ xs) ys all = all_right_by_recursion xs ys all.1

pub all_left : (xs ys : List SampleFacts) → All IsSample (xs ++ ys) → All IsSample xs
all_left xs ys all =
    All-from_recursion IsSample xs
    (all_left_by_recursion xs ys (recursion_from_All IsSample (xs ++ ys) all))

pub all_right : (xs ys : List SampleFacts) → All IsSample (xs ++ ys) → All IsSample ys
all_right xs ys all =
    All-from_recursion IsSample ys
    (all_right_by_recursion xs ys (recursion_from_All IsSample (xs ++ ys) all))
