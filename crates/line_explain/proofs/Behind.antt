-- A line at a place of the lines that are left.
use Rattle.std.proofs.Common.{◌≡◌, ◌<◌, ◌≤◌, ◌+◌, ◌-◌, ℕ, ap, arith, List, ◌∷◌, Some, suc}
use Rattle.std.specs.Prelude.{slice_get}

-- behind the first line it stands a place further in front
pub one_on : {A : Type 0} (x : A) (xs : List A) (n b : ℕ) → b < n
    → slice_get (x ∷ xs) (n - b) ≡ slice_get xs (n - (b + 1))
one_on x xs n b h =
    let e : n - b ≡ suc (n - (b + 1)) = omega arith in
    ap (slice_get (x ∷ xs)) e

-- once so many are cut off, it is the first
pub here : {A : Type 0} (x : A) (xs : List A) (n b : ℕ) → n ≤ b
    → slice_get (x ∷ xs) (n - b) ≡ Some x
here x xs n b h =
    let e : n - b ≡ 0 = omega arith in
    ap (slice_get (x ∷ xs)) e
