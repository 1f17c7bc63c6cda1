-- Tests as numbers.
use Rattle.std.proofs.Common.{◌≡◌, ℕ, zero, suc, ◌<◌, ◌≤◌, ◌==◌, Bool, true, false, not, ◌||◌, cond, [], ◌∷◌, sum_by, nat_lt, refl, arith}
use Rattle.std.proofs.lemmas.Bool.Decides.{nat_tests}

pub bit-most : (b : Bool) → cond b 1 0 ≤ 1
bit-most true = omega arith
bit-most false = omega arith

-- a number below five is one of the five
pub ones : (k : ℕ) → k < 5 → sum_by (λ p. cond (k == p) 1 0) (0 ∷ 1 ∷ 2 ∷ 3 ∷ 4 ∷ []) ≡ 1
ones zero h = refl
ones (suc zero) h = refl
ones (suc (suc zero)) h = refl
ones (suc (suc (suc zero))) h = refl
ones (suc (suc (suc (suc zero)))) h = refl
ones (suc (suc (suc (suc (suc k))))) h = absurd (omega (arith, h))

-- a number below another one, or else a greatest one
pub within-or : (k n m : ℕ) → n ≤ m → cond (nat_lt k n) k m < suc m
within-or k n m few = grind (arith, nat_tests)

pub or-false : (b : Bool) → not (b || false) ≡ not b
or-false true = refl
or-false false = refl
