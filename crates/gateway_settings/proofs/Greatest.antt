-- The greatest number that passes a test, sought from the top.
use Rattle.std.proofs.Common.{◌≡◌, ℕ, zero, suc, ◌<◌, ◌≤◌, Bool, true, false, if◌then◌else◌, inl, inr, refl, sym, ◌∙◌, true≢false, arith}
use Rattle.std.proofs.lemmas.Bool.{cases_lt}
use Rattle.lemmas.specs.Extremes.{greatest}

-- where the top fails, it is sought below
pub greatest-below : (test : ℕ → Bool) (n m : ℕ) → n ≡ suc m → test n ≡ false →
    greatest test m ≡ greatest test n
unfolding greatest
greatest-below test n m same fails =
    let top : test (suc m) ≡ false = rw same at fails in
    rw (same, top)

-- the top is it where it passes, and 0 where nothing does
pub greatest-top : (test : ℕ → Bool) (n : ℕ) → (0 < n → test n ≡ true) → greatest test n ≡ n
unfolding greatest
greatest-top test zero passes = refl
greatest-top test (suc n) passes =
    let top : test (suc n) ≡ true = passes (omega arith) in
    rw top

pub greatest-le : (test : ℕ → Bool) (n : ℕ) → greatest test n ≤ n
unfolding greatest
greatest-le test zero = omega arith
greatest-le test (suc n) =
    let below = greatest-le test n in
    elim (test (suc n)) as (λ t. (if t then suc n else greatest test n) ≤ suc n) [
      | true ↦ omega arith
      | false ↦ omega (arith, below)
    ]

-- where some number up to the top passes, the greatest does, and is no less
pub greatest-passes : (test : ℕ → Bool) (n k : ℕ) → k ≤ n → test k ≡ true →
    (k ≤ greatest test n) × (test (greatest test n) ≡ true)
unfolding greatest
greatest-passes test zero k below passes =
    let same : k ≡ 0 = omega (arith, below) in
    (omega (arith, same), rw same at passes)
greatest-passes test (suc n) k below passes =
    let Passes : Bool → Type 0 = λ t.
    (k ≤ (if t then suc n else greatest test n))
    × (test (if t then suc n else greatest test n) ≡ true) in
    elim (test (suc n)) as (λ t. test (suc n) ≡ t → Passes t) [
      | true ↦ λ e. (below, e)
      | false ↦ λ e. elim (cases_lt k (suc n)) [
        | inl less ↦ greatest-passes test n k (omega (arith, less)) passes
        | inr more ↦
            let same : k ≡ suc n = omega (arith, more, below) in
            let passed : test (suc n) ≡ true = rw same at passes in
            absurd (true≢false (sym passed ∙ e))
      ]
    ] refl
