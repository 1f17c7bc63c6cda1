-- Lists by a test: what is found, counted, taken out and kept.
use Rattle.std.proofs.Common.{◌≡◌, ℕ, ◌+◌, ◌<◌, ◌≤◌, zero-le, List, [], ◌∷◌, ◌++◌, Bool, true, false, not, cond, length}
use Rattle.std.proofs.Common.{Option, None, Some, unwrap_or, filter, find, count_by, refl, sym, ap, ◌∙◌, arith, subst, true≢false}
use Rattle.std.proofs.lemmas.List.Sums.{sum_by-cons, length-filter, count_by-le-length}
use Rattle.std.proofs.lemmas.Option.{none-some}

module _ {X : Type 0} (t : X → Bool) where
  none-at : (x : X) (xs : List X) (b : Bool) → cond b 1 0 + count_by t xs ≡ 0
      → filter (λ y. not (t y)) xs ≡ xs
      → cond (not b) (x ∷ filter (λ y. not (t y)) xs) (filter (λ y. not (t y)) xs) ≡ x ∷ xs
  none-at x xs true none rest = absurd (omega (arith, none))
  none-at x xs false none rest = ap (λ (ys : List X). x ∷ ys) rest

  -- where none passes, none is taken out
  pub filter-none : (xs : List X) → count_by t xs ≡ 0 → filter (λ x. not (t x)) xs ≡ xs
  filter-none [] none = refl
  filter-none (x ∷ xs) none =
      let split : cond (t x) 1 0 + count_by t xs ≡ 0 =
      sym (sum_by-cons (λ y. cond (t y) 1 0) x xs) ∙ none in
      none-at x xs (t x) split (filter-none xs (omega (arith, split)))

  found-at : (q : X → Bool) (x : X) (xs : List X) (found : X) (b : Bool)
      → cond b 1 0 + count_by t xs ≤ 1 → cond b (Some x) (find t xs) ≡ Some found
      → (count_by t xs ≤ 1 → find t xs ≡ Some found
      → count_by q (filter (λ y. not (t y)) xs) + cond (q found) 1 0 ≡ count_by q xs)
      → count_by q (cond (not b) (x ∷ filter (λ y. not (t y)) xs) (filter (λ y. not (t y)) xs))
      + cond (q found) 1 0 ≡ cond (q x) 1 0 + count_by q xs
  found-at q x xs found true one e rest =
      let same : x ≡ found = ap (λ (o : Option X). unwrap_or o x) e in
      let kept : count_by q (filter (λ y. not (t y)) xs) ≡ count_by q xs =
      ap (λ (ys : List X). count_by q ys) (filter-none xs (omega (arith, one))) in
      let bit : X → ℕ = λ y. cond (q y) 1 0 in
      let counted : bit x ≡ bit found = ap bit same in
      omega (arith, kept, counted)
  found-at q x xs found false one e rest =
      omega (
        arith,
        rest (omega (arith, one)) e,
        sum_by-cons (λ y. cond (q y) 1 0) x (filter (λ y. not (t y)) xs),
      )

  -- taking out the one that was found lowers each count by that one
  pub count-found : (q : X → Bool) (xs : List X) (found : X) → count_by t xs ≤ 1
      → find t xs ≡ Some found
      → count_by q (filter (λ x. not (t x)) xs) + cond (q found) 1 0 ≡ count_by q xs
  count-found q [] found one e = absurd (none-some found e)
  count-found q (x ∷ xs) found one e =
      found-at q x xs found (t x)
      (subst (λ (n : ℕ). n ≤ 1) (sum_by-cons (λ y. cond (t y) 1 0) x xs) one) e
      (λ o f. count-found q xs found o f) ∙ sym (sum_by-cons (λ y. cond (q y) 1 0) x xs)

module _ {X : Type 0} (t : X → Bool) where
  not-counted : (x : X) (xs : List X) (b : Bool) → cond b 1 0 + count_by t xs ≡ 0 → find t xs ≡ None
      → cond b (Some x) (find t xs) ≡ None
  not-counted x xs true none rest = absurd (omega (arith, none))
  not-counted x xs false none rest = rest

  -- where none passes, none is found
  pub find-none : (xs : List X) → count_by t xs ≡ 0 → find t xs ≡ None
  find-none [] none = refl
  find-none (x ∷ xs) none =
      let split : cond (t x) 1 0 + count_by t xs ≡ 0 =
      sym (sum_by-cons (λ y. cond (t y) 1 0) x xs) ∙ none in
      not-counted x xs (t x) split (find-none xs (omega (arith, split)))

  push-at : (x one : X) (xs : List X) (b : Bool) → cond b (Some x) (find t xs) ≡ None
      → (find t xs ≡ None → find t (xs ++ one ∷ []) ≡ cond (t one) (Some one) None)
      → cond b (Some x) (find t (xs ++ one ∷ [])) ≡ cond (t one) (Some one) None
  push-at x one xs true e rest = absurd (none-some x (sym e))
  push-at x one xs false e rest = rest e

  -- one more at the end is found where none was
  pub find-push : (xs : List X) (one : X) → find t xs ≡ None
      → find t (xs ++ one ∷ []) ≡ cond (t one) (Some one) None
  find-push [] one e = refl
  find-push (x ∷ xs) one e = push-at x one xs (t x) e (λ f. find-push xs one f)

  -- one more at the end that doesn't pass changes nothing
  pub find-push-miss : (xs : List X) (one : X) → t one ≡ false → find t (xs ++ one ∷ []) ≡ find t xs
  find-push-miss [] one miss = ap (λ (b : Bool). cond b (Some one) None) miss
  find-push-miss (x ∷ xs) one miss =
      ap (λ (o : Option X). cond (t x) (Some x) o) (find-push-miss xs one miss)

  gone-at : (x : X) (xs : List X) (b : Bool) → t x ≡ b → find t (filter (λ y. not (t y)) xs) ≡ None
      → find t (cond (not b) (x ∷ filter (λ y. not (t y)) xs) (filter (λ y. not (t y)) xs)) ≡ None
  gone-at x xs true e rest = rest
  gone-at x xs false e rest =
      ap (λ (b : Bool). cond b (Some x) (find t (filter (λ y. not (t y)) xs))) e ∙ rest

  -- what was taken out isn't found
  pub find-gone : (xs : List X) → find t (filter (λ x. not (t x)) xs) ≡ None
  find-gone [] = refl
  find-gone (x ∷ xs) = gone-at x xs (t x) refl (find-gone xs)

  module _ (u : X → Bool) (apart : (x : X) → t x ≡ true → u x ≡ false) where
    apart-at : (x : X) (xs : List X) (b c : Bool) → t x ≡ b → u x ≡ c
        → find t (filter (λ y. not (u y)) xs) ≡ find t xs
        → find t (cond (not c) (x ∷ filter (λ y. not (u y)) xs) (filter (λ y. not (u y)) xs))
        ≡ cond b (Some x) (find t xs)
    apart-at x xs true true e f rest = absurd (true≢false (sym f ∙ apart x e))
    apart-at x xs true false e f rest =
        ap (λ (b : Bool). cond b (Some x) (find t (filter (λ y. not (u y)) xs))) e
    apart-at x xs false true e f rest = rest
    apart-at x xs false false e f rest =
        ap (λ (b : Bool). cond b (Some x) (find t (filter (λ y. not (u y)) xs))) e ∙ rest

    -- taking others out changes nothing of what is found
    pub find-apart : (xs : List X) → find t (filter (λ x. not (u x)) xs) ≡ find t xs
    find-apart [] = refl
    find-apart (x ∷ xs) = apart-at x xs (t x) (u x) refl refl (find-apart xs)

-- what is kept is counted no more often, and what was taken out not at all
kept-at : {X : Type 0} (t q : X → Bool) (x : X) (xs : List X) (b : Bool)
    → count_by t (filter q xs) ≤ count_by t xs
    → count_by t (cond b (x ∷ filter q xs) (filter q xs)) ≤ cond (t x) 1 0 + count_by t xs
kept-at t q x xs true rest = omega (arith, rest, sum_by-cons (λ y. cond (t y) 1 0) x (filter q xs))
kept-at t q x xs false rest = omega (arith, rest)

pub count-kept : {X : Type 0} (t q : X → Bool) (xs : List X)
    → count_by t (filter q xs) ≤ count_by t xs
count-kept t q [] = zero-le
count-kept t q (x ∷ xs) =
    omega
    (arith, kept-at t q x xs (q x) (count-kept t q xs), sum_by-cons (λ y. cond (t y) 1 0) x xs)

gone-count : {X : Type 0} (t : X → Bool) (x : X) (xs : List X) (b : Bool) → t x ≡ b
    → count_by t (filter (λ y. not (t y)) xs) ≡ 0
    → count_by t (cond (not b) (x ∷ filter (λ y. not (t y)) xs) (filter (λ y. not (t y)) xs)) ≡ 0
gone-count t x xs true e rest = rest
gone-count t x xs false e rest =
    omega (
      arith,
      rest,
      sum_by-cons (λ y. cond (t y) 1 0) x (filter (λ y. not (t y)) xs),
      ap {B = ℕ} (λ (b : Bool). cond b 1 0) e,
    )

pub count-gone : {X : Type 0} (t : X → Bool) (xs : List X)
    → count_by t (filter (λ x. not (t x)) xs) ≡ 0
count-gone t [] = refl
count-gone t (x ∷ xs) = gone-count t x xs (t x) refl (count-gone t xs)

-- what is found is counted
some-at : {X : Type 0} (t : X → Bool) (x : X) (xs : List X) (found : X) (b : Bool)
    → cond b (Some x) (find t xs) ≡ Some found → (find t xs ≡ Some found → 0 < count_by t xs)
    → 0 < cond b 1 0 + count_by t xs
some-at t x xs found true e rest = omega arith
some-at t x xs found false e rest = omega (arith, rest e)

pub count-found-some : {X : Type 0} (t : X → Bool) (xs : List X) (found : X)
    → find t xs ≡ Some found → 0 < count_by t xs
count-found-some t [] found e = absurd (none-some found e)
count-found-some t (x ∷ xs) found e =
    subst (λ (n : ℕ). 0 < n) (sym (sum_by-cons (λ y. cond (t y) 1 0) x xs))
    (some-at t x xs found (t x) e (λ f. count-found-some t xs found f))

-- the kept are no more
pub filter-le : {X : Type 0} (q : X → Bool) (xs : List X) → length (filter q xs) ≤ length xs
filter-le q xs = omega (arith, length-filter q xs, count_by-le-length q xs)
