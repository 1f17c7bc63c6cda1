-- Tests of all items, or of any, through `map`, `filter` and `flat_map`.
use Rattle.std.proofs.Common.{◌≡◌, ◌+◌, ◌<◌, Bool, true, false, not, ◌||◌, ◌&&◌, List, [], ◌∷◌, ◌++◌, map, filter, nat_lt, refl, ap, ◌∙◌, sym, cond, arith, rules}
use Rattle.std.specs.Prelude.{count_by}
use Rattle.std.specs.List.{list_all, list_any, flat_map}
use Rattle.std.proofs.lemmas.List.Sums.{sum_by-cons}

-- each item of a map
pub list_all-map : {X Y : Type 0} (p : Y → Bool) (f : X → Y) (xs : List X)
    → list_all (λ x. p (f x)) xs ≡ list_all p (map f xs)
list_all-map p f [] = refl
list_all-map p f (x ∷ xs) = ap (λ b. p (f x) && b) (list_all-map p f xs)

-- each item of two lists
list_all-append : {X : Type 0} (p : X → Bool) (xs ys : List X)
    → list_all p (xs ++ ys) ≡ (list_all p xs && list_all p ys)
list_all-append p [] ys = refl
list_all-append p (x ∷ xs) ys =
    elim (p x) as (λ b. (b && list_all p (xs ++ ys)) ≡ ((b && list_all p xs) && list_all p ys)) [
      | true ↦ list_all-append p xs ys
      | false ↦ refl
    ]

-- some item of two lists
list_any-append : {X : Type 0} (p : X → Bool) (xs ys : List X)
    → list_any p (xs ++ ys) ≡ (list_any p xs || list_any p ys)
list_any-append p [] ys = refl
list_any-append p (x ∷ xs) ys =
    elim (p x) as (λ b. (b || list_any p (xs ++ ys)) ≡ ((b || list_any p xs) || list_any p ys)) [
      | true ↦ refl
      | false ↦ list_any-append p xs ys
    ]

-- each item of what the chosen give
pub list_all-chosen : {X Y : Type 0} (p : Y → Bool) (f : X → List Y) (chosen : X → Bool)
    (xs : List X) → list_all (λ x. not (chosen x) || list_all p (f x)) xs
    ≡ list_all p (flat_map f (filter chosen xs))
list_all-chosen p f chosen [] = refl
list_all-chosen p f chosen (x ∷ xs) =
    elim (chosen x) as
    (λ b. ((not b || list_all p (f x)) && list_all (λ x. not (chosen x) || list_all p (f x)) xs)
    ≡ list_all p (flat_map f (cond b (x ∷ filter chosen xs) (filter chosen xs)))) [
      | true ↦ ap (λ b. list_all p (f x) && b) (list_all-chosen p f chosen xs)
          ∙ sym (list_all-append p (f x) (flat_map f (filter chosen xs)))
      | false ↦ list_all-chosen p f chosen xs
    ]

-- some item of what the chosen give
pub list_any-chosen : {X Y : Type 0} (p : Y → Bool) (f : X → List Y) (chosen : X → Bool)
    (xs : List X) → list_any (λ x. chosen x && list_any p (f x)) xs
    ≡ list_any p (flat_map f (filter chosen xs))
list_any-chosen p f chosen [] = refl
list_any-chosen p f chosen (x ∷ xs) =
    elim (chosen x) as
    (λ b. ((b && list_any p (f x)) || list_any (λ x. chosen x && list_any p (f x)) xs)
    ≡ list_any p (flat_map f (cond b (x ∷ filter chosen xs) (filter chosen xs)))) [
      | true ↦ ap (λ b. list_any p (f x) || b) (list_any-chosen p f chosen xs)
          ∙ sym (list_any-append p (f x) (flat_map f (filter chosen xs)))
      | false ↦ list_any-chosen p f chosen xs
    ]

-- some item passes where they are counted to one at least
pub any_counted : {X : Type 0} (p : X → Bool) (xs : List X)
    → list_any p xs ≡ nat_lt 0 (count_by p xs)
any_counted p [] = refl
any_counted p (x ∷ xs) =
    let n = count_by p xs in
    let more : 0 < 1 + n = omega arith in
    let one : nat_lt 0 (1 + n) ≡ true = search rules in
    let none : n ≡ 0 + n = omega arith in
    elim (p x) as (λ b. (b || list_any p xs) ≡ nat_lt 0 (cond b 1 0 + n)) [
      | true ↦ sym one
      | false ↦ any_counted p xs ∙ ap (nat_lt 0) none
    ]
    ∙ ap (nat_lt 0) (sym (sum_by-cons (λ y. cond (p y) 1 0) x xs))
