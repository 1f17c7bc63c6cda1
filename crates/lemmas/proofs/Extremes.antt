-- The least and the greatest number that pass a test.
use Rattle.std.proofs.Common.{◌≡◌, ℕ, zero, suc, ◌<◌, ◌≤◌, Bool, true, false, inl, inr, refl, arith}
use Rattle.std.proofs.lemmas.Bool.{cases_lt}
use Rattle.lemmas.specs.Extremes.{least, greatest}

-- the least number passes, where the bound does
pub least_passes : (test : ℕ → Bool) (bound : ℕ) →
    test bound ≡ true → test (least test bound) ≡ true
unfolding least
least_passes test zero passes = passes
least_passes test (suc bound) passes =
    let Passes : Bool → Type 0 =
    λ t. test (elim t [ true ↦ zero | false ↦ suc (least (λ n. test (suc n)) bound) ]) ≡ true in
    elim (test zero) as (λ t. test zero ≡ t → Passes t) [
      | true ↦ λ e. e
      | false ↦ λ _. least_passes (λ n. test (suc n)) bound passes
    ] refl

-- a bound on what follows zero, at a number that passes where zero doesn't
after_zero : (test : ℕ → Bool) (m n : ℕ) → ((k : ℕ) → test (suc k) ≡ true → m ≤ k) →
    test zero ≡ false → test n ≡ true → suc m ≤ n
after_zero test m zero later fails passes = cc
after_zero test m (suc k) later fails passes =
    let below : m ≤ k = later k passes in
    omega (arith, below)

-- and no number that passes is less
pub least-le : (test : ℕ → Bool) (bound n : ℕ) → test n ≡ true → least test bound ≤ n
unfolding least
least-le test zero n passes = omega arith
least-le test (suc bound) n passes =
    let tail : ℕ → Bool = λ m. test (suc m) in
    let Below : Bool → Type 0 = λ t.
    (elim t [ true ↦ zero | false ↦ suc (least tail bound) ]) ≤ n in
    elim (test zero) as (λ t. test zero ≡ t → Below t) [
      | true ↦ λ _. omega arith
      | false ↦ λ fails. after_zero test _ n (λ k. least-le tail bound k) fails passes
    ] refl

-- the greatest number is m, where m passes or is 0 and no greater number up to n passes
pub greatest-is : (test : ℕ → Bool) (n m : ℕ) → m ≤ n → (0 < m → test m ≡ true) →
    ((k : ℕ) → m < k → k ≤ n → test k ≡ false) → greatest test n ≡ m
unfolding greatest
greatest-is test zero m below passes above = omega arith
greatest-is test (suc n) m below passes above = elim (cases_lt m (suc n)) [
  | inl less ↦
      let e : test (suc n) ≡ false = above (suc n) less (omega arith) in
      rw e (greatest-is test n m (omega arith) passes (λ k a b. above k a (omega arith)))
  | inr more ↦
      let same : m ≡ suc n = omega arith in
      let e : test (suc n) ≡ true = rw same at (passes (omega arith)) in
      rw (e, same)
]
