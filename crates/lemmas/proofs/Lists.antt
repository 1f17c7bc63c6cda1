-- Lists that are joined, and beginnings of a list.
use Rattle.std.proofs.Common.{◌≡◌, ℕ, zero, suc, ◌+◌, ◌≤◌, [], ◌∷◌, ◌++◌, List, Some, length, drop}
use Rattle.std.proofs.Common.{inl, inr, ◌⊎◌, ap, sym, ◌∙◌, arith, append_assoc, length-append}
use Rattle.std.specs.List.{AllZip}
use Rattle.std.specs.Prelude.{slice_get}
use Rattle.std.proofs.lemmas.List.{append-nil}
use Rattle.std.proofs.Math.Seq.{drop-append_seam}
use mathlib.Core.List.{IsPrefix}

-- an item of two joined lists stands in the first, or in the second behind the first
pub slice_get-append : {X : Type 0} (xs ys : List X) (n : ℕ) (x : X)
    → slice_get (xs ++ ys) n ≡ Some x
    → (slice_get xs n ≡ Some x) ⊎ ((k : ℕ) × (n ≡ length xs + k) × (slice_get ys k ≡ Some x))
slice_get-append [] ys n x here = inr (n, omega arith, here)
slice_get-append (y ∷ xs) ys zero x here = inl here
slice_get-append (y ∷ xs) ys (suc n) x here = elim (slice_get-append xs ys n x here) [
  | inl there ↦ inl there
  | inr after ↦ inr (after.0, omega (arith, after.1), after.2)
]

-- what stands behind the first of two lists
pub drop-append_at : {X : Type 0} (xs ys : List X) (k : ℕ) → k ≡ length xs → drop k (xs ++ ys) ≡ ys
drop-append_at xs ys k at = ap (λ n. drop n (xs ++ ys)) at ∙ drop-append_seam xs ys

-- one item more
pub length-one_more : {X : Type 0} (xs : List X) (y : X)
    → length (xs ++ y ∷ []) ≡ suc (length xs)
length-one_more xs y = omega (arith, length-append xs (y ∷ []))

-- one item more in each of two lists whose items fit
pub AllZip-one_more : {X Y : Type 0} (R : X → Y → Type 0) (xs : List X) (ys : List Y) (x : X)
    (y : Y) → AllZip R xs ys → R x y → AllZip R (xs ++ x ∷ []) (ys ++ y ∷ [])
AllZip-one_more R [] [] x y all own = (own, tt)
AllZip-one_more R [] (z ∷ zs) x y all own = absurd all
AllZip-one_more R (w ∷ ws) [] x y all own = absurd all
AllZip-one_more R (w ∷ ws) (z ∷ zs) x y all own = (all.0, AllZip-one_more R ws zs x y all.1 own)

module _ {A : Type 0} where
  pub prefix_self : (xs : List A) → IsPrefix xs xs
  prefix_self xs = ([], append-nil xs)

  pub prefix_trans : (xs ys zs : List A) → IsPrefix xs ys → IsPrefix ys zs → IsPrefix xs zs
  prefix_trans xs ys zs p q =
      (p.0 ++ q.0, sym (append_assoc xs p.0 q.0) ∙ (ap (λ w. w ++ q.0) p.1 ∙ q.1))

  pub prefix_length : (xs ys : List A) → IsPrefix xs ys → length xs ≤ length ys
  prefix_length xs ys p = omega (arith, sym (ap length p.1) ∙ length-append xs p.0)
