-- Tests of the items of a list, and the first that passes.
use Rattle.std.proofs.Common.{◌≡◌, ◌≢◌, ℕ, Bool, true, false, not, ◌||◌, List, [], ◌∷◌, length, map, unwrap_or}
use Rattle.std.proofs.Common.{refl, sym, ap, ◌∙◌, arith}
use Rattle.std.specs.Prelude.{bytes_eq}
use Rattle.std.specs.List.{list_any, position, position_or_len}
use Rattle.std.proofs.lemmas.List.Sums.{prefix_len-le-length}
use Rattle.std.proofs.lemmas.List.{length-map}
use Rattle.std.proofs.lemmas.Slice.Eq.{bytes_eq-Decides}
use Rattle.std.proofs.lemmas.Bool.Decides.{nat_tests}

-- some item of a map passes
pub list_any-map : {X Y : Type 0} (p : Y → Bool) (f : X → Y) (xs : List X)
    → list_any (λ x. p (f x)) xs ≡ list_any p (map f xs)
list_any-map p f [] = refl
list_any-map p f (x ∷ xs) = ap (λ b. p (f x) || b) (list_any-map p f xs)

-- the first place as an index
pub place_is : (p : ℕ → Bool) (xs : List ℕ)
    → unwrap_or (position p xs) (length xs) ≡ position_or_len p xs
place_is p xs = grind (arith, nat_tests, prefix_len-le-length (λ x. not (p x)) xs)

-- texts of different lengths differ, through a map too
pub bytes_eq-lengths : (f : ℕ → ℕ) (one other : List ℕ) → length one ≢ length other
    → bytes_eq (map f one) (map f other) ≡ false
bytes_eq-lengths f one other differ =
    let decides = bytes_eq-Decides (map f one) (map f other) in
    elim (bytes_eq (map f one) (map f other)) as
    (λ b. bytes_eq (map f one) (map f other) ≡ b → b ≡ false) [
      | true ↦ λ e. absurd (differ (sym (length-map one f)
          ∙ ap length (decides.0 e) ∙ length-map other f))
      | false ↦ λ e. refl
    ] refl
