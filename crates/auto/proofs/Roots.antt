-- The root of a number.
use Rattle.std.proofs.Common.{◌≡◌, sym, ℕ, zero, suc, ◌+◌, ◌*◌, ◌≤◌, ◌<◌, Bool, true, false, inl, inr, arith, if◌then◌else◌, nat_le, mul-le-mul_right, mul-le-mul_left}
use Rattle.std.proofs.lemmas.Bool.{le-leb, lt-leb}
use Rattle.std.proofs.lemmas.Bool.{cases_lt}
use Rattle.lemmas.specs.Extremes.{greatest}
use Rattle.lemmas.proofs.Extremes.{greatest-is}
use Rattle.auto.specs.AutoRules.{root}

square_least : (r : ℕ) → r ≤ r * r
square_least zero = omega arith
square_least (suc r) =
    let products : suc r * 1 ≤ suc r * suc r = mul-le-mul_left (suc r) (omega arith) in
    omega arith

square_above : (r k n : ℕ) → n < (r + 1) * (r + 1) → r < k → n < k * k
square_above r k n h less =
    let one : (r + 1) * (r + 1) ≤ (r + 1) * k = mul-le-mul_left (r + 1) (omega arith) in
    let two : (r + 1) * k ≤ k * k = mul-le-mul_right k (omega arith) in
    omega arith

-- whose square is at most the number, while that of the next isn't
pub root_is : (n r : ℕ) → r * r ≤ n → n < (r + 1) * (r + 1) → r ≡ root n
unfolding root
root_is n r fits next =
    let below : r ≤ n = omega (arith, square_least r) in
    sym (greatest-is _ n r below (λ _. le-leb _ _ fits)
    (λ k a b. lt-leb _ _ (square_above r k n next a)))

-- at most 100, of a limit
pub root_most : (n r : ℕ) → r * r ≤ n → n ≤ 10000 → r ≤ 100
root_most n r fits small = elim (cases_lt r 101) [
  | inl less ↦ omega arith
  | inr more ↦
      let one : 101 * 101 ≤ 101 * r = mul-le-mul_left 101 more in
      let two : 101 * r ≤ r * r = mul-le-mul_right r more in
      omega arith
]

-- and at least 1
pub root_least : (n r : ℕ) → n < (r + 1) * (r + 1) → 1 ≤ n → 1 ≤ r
root_least n zero next some = omega arith
root_least n (suc r) next some = omega arith

-- by whether the greatest number passes
greatest_by : (passes : Bool) (n rest : ℕ) → 1 ≤ rest → 1 ≤ (if passes then suc n else rest)
greatest_by true n rest some = omega arith
greatest_by false n rest some = some

greatest_some : (test : ℕ → Bool) (n : ℕ) → test 1 ≡ true → 1 ≤ greatest test (suc n)
unfolding greatest
greatest_some test zero first = rw first (omega arith)
greatest_some test (suc n) first =
    greatest_by (test (suc (suc n))) (suc n) _ (greatest_some test n first)

pub root_some : (n : ℕ) → 1 ≤ n → 1 ≤ root n
unfolding root
root_some zero some = omega arith
root_some (suc n) some =
    greatest_some (λ r. nat_le (r * r) (suc n)) n (le-leb _ _ (omega arith))
