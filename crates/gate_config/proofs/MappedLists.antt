-- Lists seen through a function.
use Rattle.std.specs.List.{list_all, list_any}
use Rattle.std.proofs.Common.{◌≡◌, refl, ap, Bool, ◌||◌, ◌&&◌, List, [], ◌∷◌, map}

pub list_any_map : {X Y : Type 0} (test : Y → Bool) (f : X → Y) (xs : List X) →
    list_any test (map f xs) ≡ list_any (λ x. test (f x)) xs
list_any_map test f [] = refl
list_any_map test f (x ∷ xs) = ap (λ b. test (f x) || b) (list_any_map test f xs)

pub list_all_map : {X Y : Type 0} (test : Y → Bool) (f : X → Y) (xs : List X) →
    list_all test (map f xs) ≡ list_all (λ x. test (f x)) xs
list_all_map test f [] = refl
list_all_map test f (x ∷ xs) = ap (λ b. test (f x) && b) (list_all_map test f xs)

pub map_twice : {X Y Z : Type 0} (f : Y → Z) (g : X → Y) (xs : List X) →
    map f (map g xs) ≡ map (λ x. f (g x)) xs
map_twice f g [] = refl
map_twice f g (x ∷ xs) = ap (λ rest. f (g x) ∷ rest) (map_twice f g xs)
