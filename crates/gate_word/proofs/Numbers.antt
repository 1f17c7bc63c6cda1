-- How often a number stands in views, as seats change.
use Rattle.std.proofs.Common.{◌≡◌, ℕ, zero, suc, ◌+◌, ◌<◌, ◌≤◌, List, [], ◌∷◌, ◌++◌, length, set}
use Rattle.std.proofs.Common.{Bool, true, false, cond, refl, sym, ap, ◌∙◌, get_or, arith}
use Rattle.std.proofs.Common.{length-append}
use Rattle.std.specs.Prelude.{◌==◌}
use Rattle.std.proofs.lemmas.Bool.{eqb-true}
use Rattle.std.proofs.lemmas.List.Sums.{sum_by-cons, sum_by-append, sum_by-set, sum_by_push}
use mathlib.Core.Option.{some, some-ne-none, some-injective}
use mathlib.Core.List.{IsPrefix}
use lib.ListN.{get_elem?}
use Rattle.lemmas.proofs.Lists.{prefix_length}
use Rattle.gate_word.specs.declared.rule.View.{View}
use Rattle.gate_word.specs.Rule.{AreApart, AreOwned, keeper_view, raised, reader_view}
use Rattle.gate_word.specs.Rule.{times, times_at, times_in}

pub at_within : {A : Type 0} (l : List A) (i : ℕ) (a : A) → get_elem? l i ≡ some a → i < length l
at_within [] i a e = absurd (some-ne-none a (sym e))
at_within (x ∷ xs) zero a e = omega arith
at_within (x ∷ xs) (suc i) a e = let h = at_within xs i a e in omega arith

at_or : {A : Type 0} (l : List A) (i : ℕ) (a : A) → get_elem? l i ≡ some a → get_or l i a ≡ a
at_or [] i a e = refl
at_or (x ∷ xs) zero a e = some-injective _ _ e
at_or (x ∷ xs) (suc i) a e = at_or xs i a e

-- one where it is so
abbrev one_if : Bool → ℕ
one_if b = cond b 1 0

times-append : (n : ℕ) (xs ys : List ℕ) → times n (xs ++ ys) ≡ times n xs + times n ys
times-append n xs ys = sum_by-append (λ m. cond (m == n) 1 0) xs ys

times-cons : (n m : ℕ) (xs : List ℕ) → times n (m ∷ xs) ≡ one_if (m == n) + times n xs
times-cons n m xs = sum_by-cons (λ m. cond (m == n) 1 0) m xs

module _ {E : Type 0} where
  -- a view in another's place
  times_in-set : (n : ℕ) (views : List (View E)) (id : ℕ) (v w : View E)
      → get_elem? views id ≡ some v
      → times_in n (set views id w) + times_at n v ≡ times_in n views + times_at n w
  times_in-set n views id v w at =
      ap (λ (z : View E). times_in n (set views id w) + times_at n z) (sym (at_or views id v at))
      ∙ sum_by-set (times_at n) views id w v (at_within views id v at)

  -- a seat's view gets no more numbers
  pub fewer : (m n : List E) (views : List (View E)) (id : ℕ) (v w : View E) → AreOwned m views
      → get_elem? views id ≡ some v → IsPrefix m n
      → ((k : ℕ) → times_at k w ≤ times_at k v) → AreOwned n (set views id w)
  fewer m n views id v w h at up less = record {
    once = λ k. let e = times_in-set k views id v w at in omega (arith, e, less k, h.once k);
    made = λ k beyond.
        let e = times_in-set k views id v w at in
        let long = prefix_length m n up in
        omega (arith, e, less k, h.made k (omega (arith, long, beyond)));
  }

  -- two seats share what one had
  pub shared : (m : List E) (views : List (View E)) (id : ℕ) (v left right : View E)
      → AreOwned m views → get_elem? views id ≡ some v
      → ((k : ℕ) → times_at k left + times_at k right ≤ times_at k v)
      → AreOwned m (set views id left ++ right ∷ [])
  shared m views id v left right h at both = record {
    once = λ k. omega (arith, all k, h.once k);
    made = λ k beyond. omega (arith, all k, h.made k beyond);
  }
    where
      all : (k : ℕ) → times_in k (set views id left ++ right ∷ []) ≤ times_in k views
      all k = omega (
        arith,
        sum_by_push (times_at k) (set views id left) right,
        times_in-set k views id v left at,
        both k,
      )

  -- a seat takes in another, and that is spent
  pub joined : (m : List E) (views : List (View E)) (id : ℕ) (v both : View E) (other : ℕ)
      (w spent : View E) → AreOwned m views → get_elem? views id ≡ some v
      → get_elem? (set views id both) other ≡ some w
      → ((k : ℕ) → times_at k both + times_at k spent ≤ times_at k v + times_at k w)
      → AreOwned m (set (set views id both) other spent)
  joined m views id v both other w spent h at there all = record {
    once = λ k. omega (arith, fits k, h.once k);
    made = λ k beyond. omega (arith, fits k, h.made k beyond);
  }
    where
      fits : (k : ℕ) → times_in k (set (set views id both) other spent) ≤ times_in k views
      fits k = omega (
        arith,
        times_in-set k views id v both at,
        times_in-set k (set views id both) other w spent there,
        all k,
      )

  -- one number more, which no view had
  one_more : (m xs : List E) (x : E) (views : List (View E)) (id : ℕ) (v : View E)
      → AreOwned m views → get_elem? views id ≡ some v → v.log ≡ m → (k : ℕ) (b : Bool)
      → (length v.log == k) ≡ b
      → (times_in k (set views id (raised (x ∷ xs) v)) ≤ 1)
      × (length (v.log ++ x ∷ xs) ≤ k
      → times_in k (set views id (raised (x ∷ xs) v)) ≡ 0)
  one_more m xs x views id v h at here k b is = by_case b is
    where
      w : View E
      w = raised (x ∷ xs) v

      set_to : times_in k (set views id w) + times_at k v ≡ times_in k views + times_at k w
      set_to = times_in-set k views id v w at

      head : times_at k w ≡ one_if (length v.log == k) + times_at k v
      head = let e = times-cons k (length v.log) v.came in omega (arith, e)

      long : length m ≡ length v.log
      long = ap length (sym here)

      behind : length (v.log ++ x ∷ xs) ≡ length v.log + suc (length xs)
      behind = length-append v.log (x ∷ xs)

      by_case : (c : Bool) → (length v.log == k) ≡ c
          → (times_in k (set views id w) ≤ 1)
          × (length (v.log ++ x ∷ xs) ≤ k → times_in k (set views id w) ≡ 0)
      by_case true like =
          let this : length v.log ≡ k = eqb-true (length v.log) k like in
          let one : one_if (length v.log == k) ≡ 1 = ap one_if like in
          let none = h.made k (omega (arith, long, this)) in (
            omega (arith, set_to, head, one, none),
            λ beyond. absurd (omega (arith, behind, beyond, this)),
          )
      by_case false unlike =
          let zero_more : one_if (length v.log == k) ≡ 0 = ap one_if unlike in (
            omega (arith, set_to, head, zero_more, h.once k),
            λ beyond.
                let none = h.made k (omega (arith, long, behind, beyond)) in
                omega (arith, set_to, head, zero_more, none),
          )

  -- the keeper's view, as it adds entries for whom it noted
  pub raises : (m added : List E) (views : List (View E)) (id : ℕ) (v : View E) → AreOwned m views
      → get_elem? views id ≡ some v → v.log ≡ m
      → AreOwned (v.log ++ added) (set views id (raised added v))
  raises m [] views id v h at here =
      fewer m (v.log ++ []) views id v (raised [] v) h at
      ([], ap (λ (l : List E). l ++ []) (sym here)) (λ k. omega arith)
  raises m (x ∷ xs) views id v h at here = record {
    once = λ k. (one_more m xs x views id v h at here k (length v.log == k) refl).0;
    made = λ k. (one_more m xs x views id v h at here k (length v.log == k) refl).1;
  }

  -- the numbers of one seat are apart
  pub apart : (m : List E) (views : List (View E)) (id : ℕ) (v : View E) → AreOwned m views
      → get_elem? views id ≡ some v → AreApart (v.came ++ v.own)
  apart m views id v h at k =
      let e = times_in-set k views id v (reader_view [] []) at in
      omega (arith, e, times-append k v.came v.own, h.once k)

  -- the numbers that it noted are its own then
  pub took_back : (k : ℕ) (log : List E) (v : View E)
      → times_at k (keeper_view log (v.came ++ v.own)) ≤ times_at k v
  took_back k log v = let e = times-append k v.came v.own in omega (arith, e)
