-- How far the words of a line stand where a form wants them.
use Rattle.std.proofs.Common.{◌≡◌, ◌∙◌, ◌+◌, refl, ap, Bool, true, false, cond, List, [], ◌∷◌, length, map, find, take_while, zip, Some, option_map}
use Rattle.std.specs.List.{common_prefix_len, prefix_len}
use Rattle.std.proofs.lemmas.List.Folds.{length-prefix_len}

-- how many pairs from the front on pass, by the two lists
common : {A B C : Type 0} (fits : C → A → Bool) (f : B → C) (ws : List A) (xs : List B)
    → prefix_len (λ pair. fits (f pair.1) pair.0) (zip ws xs)
    ≡ common_prefix_len (λ w wanted. fits wanted w) ws (map f xs)
common fits f [] xs = refl
common fits f (w ∷ ws) [] = refl
common fits f (w ∷ ws) (x ∷ xs) =
    ap (λ n. cond (fits (f x) w) (1 + n) 0) (common fits f ws xs)

pub reaches : {A B C : Type 0} (fits : C → A → Bool) (f : B → C) (ws : List A) (xs : List B)
    → length (take_while (λ pair. fits (f pair.1) pair.0) (zip ws xs))
    ≡ common_prefix_len (λ w wanted. fits wanted w) ws (map f xs)
reaches fits f ws xs =
    length-prefix_len (λ pair. fits (f pair.1) pair.0) (zip ws xs) ∙ common fits f ws xs

-- the first that passes of what is made of a list, by the list
pub find_of_map : {A B : Type 0} (test : B → Bool) (f : A → B) (xs : List A)
    → option_map f (find (λ x. test (f x)) xs) ≡ find test (map f xs)
find_of_map test f [] = refl
find_of_map test f (x ∷ xs) =
    elim (test (f x)) as (λ b. option_map f (cond b (Some x) (find (λ x. test (f x)) xs))
    ≡ cond b (Some (f x)) (find test (map f xs)))
    [ true ↦ refl | false ↦ find_of_map test f xs ]
