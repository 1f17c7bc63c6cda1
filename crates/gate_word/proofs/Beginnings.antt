-- Beginnings of one list, and the longer of two.
use Rattle.std.proofs.Common.{◌≡◌, List, [], ◌∷◌, ◌⊎◌, refl, ap, inl, inr, ⊎_elim}
use mathlib.Core.List.{IsPrefix}
use Rattle.lemmas.proofs.Lists.{prefix_self}
use Rattle.gate_word.specs.Rule.{longer}

module _ {A : Type 0} where
  -- of two beginnings of one list, the longer is one of them ..
  pub longer_one : (xs ys zs : List A) → IsPrefix xs zs → IsPrefix ys zs
      → (longer xs ys ≡ xs) ⊎ (longer xs ys ≡ ys)
  longer_one [] ys zs p q = inr refl
  longer_one (x ∷ xs) [] zs p q = inl refl
  longer_one (x ∷ xs) (y ∷ ys) [] p q = absurd (cc (p.1))
  longer_one (x ∷ xs) (y ∷ ys) (z ∷ zs) p q =
      let heads : x ≡ y = cc (p.1, q.1) in
      let rest = longer_one xs ys zs (p.0, cc (p.1)) (q.0, cc (q.1)) in
      ⊎_elim (λ (e : longer xs ys ≡ xs). inl (ap (λ w. x ∷ w) e))
      (λ (e : longer xs ys ≡ ys). inr (cc (heads, e))) rest

  -- .. and each begins it
  pub longer_left : (xs ys zs : List A) → IsPrefix xs zs → IsPrefix ys zs
      → IsPrefix xs (longer xs ys)
  longer_left [] ys zs p q = (ys, refl)
  longer_left (x ∷ xs) [] zs p q = prefix_self (x ∷ xs)
  longer_left (x ∷ xs) (y ∷ ys) [] p q = absurd (cc (p.1))
  longer_left (x ∷ xs) (y ∷ ys) (z ∷ zs) p q =
      let rest = longer_left xs ys zs (p.0, cc (p.1)) (q.0, cc (q.1)) in
      (rest.0, ap (λ w. x ∷ w) rest.1)

  pub longer_right : (xs ys zs : List A) → IsPrefix xs zs → IsPrefix ys zs
      → IsPrefix ys (longer xs ys)
  longer_right [] ys zs p q = prefix_self ys
  longer_right (x ∷ xs) [] zs p q = (x ∷ xs, refl)
  longer_right (x ∷ xs) (y ∷ ys) [] p q = absurd (cc (p.1))
  longer_right (x ∷ xs) (y ∷ ys) (z ∷ zs) p q =
      let heads : x ≡ y = cc (p.1, q.1) in
      let rest = longer_right xs ys zs (p.0, cc (p.1)) (q.0, cc (q.1)) in
      (rest.0, cc (heads, rest.1))

  -- and it is a beginning too
  pub longer_within : (xs ys zs : List A) → IsPrefix xs zs → IsPrefix ys zs
      → IsPrefix (longer xs ys) zs
  longer_within [] ys zs p q = q
  longer_within (x ∷ xs) [] zs p q = p
  longer_within (x ∷ xs) (y ∷ ys) [] p q = absurd (cc (p.1))
  longer_within (x ∷ xs) (y ∷ ys) (z ∷ zs) p q =
      let heads : x ≡ z = cc (p.1) in
      let rest = longer_within xs ys zs (p.0, cc (p.1)) (q.0, cc (q.1)) in
      (rest.0, cc (heads, rest.1))

  -- of a list and a beginning of it, the list
  pub longer_whole : (xs ys : List A) → IsPrefix xs ys → longer xs ys ≡ ys
  longer_whole [] ys p = refl
  longer_whole (x ∷ xs) [] p = absurd (cc (p.1))
  longer_whole (x ∷ xs) (y ∷ ys) p =
      let heads : x ≡ y = cc (p.1) in
      let rest = longer_whole xs ys (p.0, cc (p.1)) in cc (heads, rest)
