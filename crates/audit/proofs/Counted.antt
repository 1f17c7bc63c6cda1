-- Where each receipt is of a number that no earlier one is of, no number stands twice.
use Rattle.std.proofs.Common.{◌≡◌, ℕ, suc, ◌+◌, ◌≤◌, ◌==◌, [], ◌∷◌, ◌++◌, ◌||◌, Bool, true, false, cond, List, Some, take, sym, ap, ◌∙◌, subst, refl, arith, inl, inr, append_assoc, append-nil}
use Rattle.std.specs.Prelude.{slice_get, count_by, Vec}
use Rattle.std.specs.declared.alloc.Global.{Global}
use Rattle.std.proofs.lemmas.Bool.{cases_Bool, or_cases, eqb-true, false≢true}
use Rattle.std.proofs.lemmas.List.Sums.{sum_by-append, sum_by-cons}
use Rattle.gate_ledgers.specs.Receipt.{Told}
use Rattle.audit.specs.Receipts.{is_named, all_kept}

-- how many receipts are of a number
abbrev pub times : ℕ → List Told → ℕ
times number receipts = count_by (λ receipt. receipt.number == number) receipts

abbrev one_if : Bool → ℕ
one_if b = cond b 1 0

or_fails : (a b : Bool) → (a || b) ≡ false → (a ≡ false) × (b ≡ false)
or_fails true b h = absurd (false≢true (sym h))
or_fails false b h = (refl, h)

module _ (number : ℕ) where
  times-cons : (x : Told) (xs : List Told)
      → times number (x ∷ xs) ≡ one_if (x.number == number) + times number xs
  times-cons x xs = sum_by-cons (λ (r : Told). one_if (r.number == number)) x xs

  times-append : (xs ys : List Told) → times number (xs ++ ys) ≡ times number xs + times number ys
  times-append xs ys = sum_by-append (λ (r : Told). one_if (r.number == number)) xs ys

  -- none, or one at least
  pub times-unnamed : (receipts : List Told) → is_named receipts number ≡ false
      → times number receipts ≡ 0
  times-unnamed [] none = refl
  times-unnamed (x ∷ xs) none =
      let parts = or_fails (x.number == number) (is_named xs number) none in
      let other : one_if (x.number == number) ≡ 0 = ap one_if parts.0 in
      omega (arith, times-cons x xs, other, times-unnamed xs parts.1)

  pub times-named : (receipts : List Told) → is_named receipts number ≡ true
      → 1 ≤ times number receipts
  times-named [] some = absurd (false≢true some)
  times-named (x ∷ xs) some = elim (or_cases (x.number == number) (is_named xs number) some) [
    | inl here ↦
        let one : one_if (x.number == number) ≡ 1 = ap one_if here in
        omega (arith, times-cons x xs, one)
    | inr rest ↦ omega (arith, times-cons x xs, times-named xs rest)
  ]

  -- one receipt more, which none before it shares its number with
  times-more : (earlier : List Told) (x : Told) → times number earlier ≤ 1
      → is_named earlier x.number ≡ false → times number (earlier ++ x ∷ []) ≤ 1
  times-more earlier x few anew = elim (cases_Bool (x.number == number)) [
    | inl here ↦
        let one : one_if (x.number == number) ≡ 1 = ap one_if here in
        let none : times number earlier ≡ 0 =
        times-unnamed earlier
        (ap (is_named earlier) (sym (eqb-true x.number number here)) ∙ anew) in
        omega (arith, times-append earlier (x ∷ []), times-cons x [], one, none)
    | inr other ↦
        let zero_here : one_if (x.number == number) ≡ 0 = ap one_if other in
        omega (arith, times-append earlier (x ∷ []), times-cons x [], zero_here)
  ]

-- each receipt of a list is of a number that none before it is of
abbrev pub EachAnew : List Told → List Told → Type 0
EachAnew earlier receipts =
    (place : ℕ) (receipt : Told) → slice_get receipts place ≡ Some receipt
    → is_named (earlier ++ take place receipts) receipt.number ≡ false

-- so no number stands twice
pub times-anew : (number : ℕ) (earlier receipts : List Told) → times number earlier ≤ 1
    → EachAnew earlier receipts → times number (earlier ++ receipts) ≤ 1
times-anew number earlier [] few anew =
    subst (λ (rs : List Told). times number rs ≤ 1) (sym (append-nil earlier)) few
times-anew number earlier (x ∷ xs) few anew =
    let first : is_named earlier x.number ≡ false =
    ap (λ (rs : List Told). is_named rs x.number) (sym (append-nil earlier)) ∙ anew 0 x refl in
    let rest : EachAnew (earlier ++ x ∷ []) xs =
    λ place r there.
    ap (λ (rs : List Told). is_named rs r.number)
    (append_assoc earlier (x ∷ []) (take place xs)) ∙ anew (suc place) r there in
    subst (λ (rs : List Told). times number rs ≤ 1) (append_assoc earlier (x ∷ []) xs)
    (times-anew number (earlier ++ x ∷ []) xs (times-more number earlier x few first) rest)

-- the same over lists
abbrev pub ListsAnew : List Told → List (Vec Told Global) → Type 0
ListsAnew earlier kept =
    (n : ℕ) (list : Vec Told Global) → slice_get kept n ≡ Some list
    → EachAnew (earlier ++ all_kept (take n kept)) list.items

pub times-lists : (number : ℕ) (earlier : List Told) (kept : List (Vec Told Global))
    → times number earlier ≤ 1 → ListsAnew earlier kept
    → times number (earlier ++ all_kept kept) ≤ 1
times-lists number earlier [] few anew =
    subst (λ (rs : List Told). times number rs ≤ 1) (sym (append-nil earlier)) few
times-lists number earlier (v ∷ vs) few anew =
    let first : EachAnew earlier v.items =
    subst (λ (rs : List Told). EachAnew rs v.items) (append-nil earlier) (anew 0 v refl) in
    let rest : ListsAnew (earlier ++ v.items) vs =
    λ n list there.
    subst (λ (rs : List Told). EachAnew rs list.items)
    (sym (append_assoc earlier v.items (all_kept (take n vs)))) (anew (suc n) list there) in
    subst (λ (rs : List Told). times number rs ≤ 1) (append_assoc earlier v.items (all_kept vs))
    (times-lists number (earlier ++ v.items) vs (times-anew number earlier v.items few first)
    rest)
