-- Beginnings of a list, and what stands in them.
use Rattle.std.proofs.Common.{◌≡◌, ℕ, zero, suc, List, [], ◌∷◌, ◌++◌, length, Some, slice_get}
use Rattle.std.proofs.Common.{refl, arith}
use mathlib.Core.List.{IsPrefix}

module _ {A : Type 0} where
  -- what stands in a beginning stands in the whole, at the same place
  pub prefix_get : (xs ys : List A) (k : ℕ) (x : A) → IsPrefix xs ys
      → slice_get xs k ≡ Some x → slice_get ys k ≡ Some x
  prefix_get [] ys k x p h = absurd cc
  prefix_get (y ∷ xs) [] k x p h = absurd (cc (p.1))
  prefix_get (y ∷ xs) (z ∷ ys) zero x p h = cc (p.1, h)
  prefix_get (y ∷ xs) (z ∷ ys) (suc k) x p h = prefix_get xs ys k x (p.0, cc (p.1)) h

  pub at_seam : (xs : List A) (x : A) (ys : List A) (k : ℕ) → k ≡ length xs
      → slice_get (xs ++ x ∷ ys) k ≡ Some x
  at_seam [] x ys zero e = refl
  at_seam [] x ys (suc k) e = absurd (omega arith)
  at_seam (y ∷ xs) x ys zero e = absurd (omega arith)
  at_seam (y ∷ xs) x ys (suc k) e = at_seam xs x ys k (omega arith)
