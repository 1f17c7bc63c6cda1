-- Who waits, in rising order of number: who is found and taken away at a place.
use Rattle.std.proofs.Common.{◌≡◌, ◌≢◌, ℕ, zero, suc, ◌+◌, ◌<◌, ◌==◌}
use Rattle.std.proofs.Common.{None, Some, Option, List, [], ◌∷◌, All, length, get_or, remove}
use Rattle.std.proofs.Common.{refl, ap, subst, arith, ◌++◌, length-append}
use Rattle.std.proofs.lemmas.List.Elements.{All-head, All-tail}
use Rattle.std.proofs.lemmas.List.Quantifiers.{all_pairs_push}
use Rattle.std.specs.List.Sorted.{IsNonDecreasingBy}
use Rattle.std.specs.Map.{lookup, remove_entry}
use Rattle.std.specs.Option.{option_to_list}
use Rattle.seats.specs.Numbers.{AreInOrder, IsFirstFrom, IsRow, IsSeatAt, NoneHas}

module _ {X : Type 0} where
  abbrev IsOther : ℕ → ℕ × X → Type 0
  IsOther number = λ one. one.0 ≢ number

  -- the numbers don't fall
  pub numbers_rise : (seated : List (ℕ × X)) → AreInOrder seated
      → IsNonDecreasingBy (λ (one : ℕ × X). one.0) seated
  numbers_rise seated ordered i j d low high = grind (arith, ordered i j d)

  -- a number that isn't where it would stand is that of none
  pub none_there : (seated : List (ℕ × X)) (number at : ℕ) → AreInOrder seated
      → IsFirstFrom seated number at
      → ((d : ℕ × X) → at < length seated → (get_or seated at d).0 ≢ number)
      → NoneHas seated number
  none_there seated number at ordered first absent k d within same =
      grind (arith, ordered at k d, first.below k d, first.others k d, absent d)

  -- where none has a number, none is found, and to take it away changes nothing
  module _ (number : ℕ) where
    pub lookup_none : (seated : List (ℕ × X)) → NoneHas seated number
        → lookup (λ one. one == number) seated ≡ None
    lookup_none [] none = refl
    lookup_none (one ∷ seated) none =
        let first = All-head (IsOther number) one seated none in
        let rest = lookup_none seated (All-tail (IsOther number) one seated none) in
        grind (arith, first, rest)

    pub remove_none : (seated : List (ℕ × X)) → NoneHas seated number
        → remove_entry (λ one. one == number) seated ≡ seated
    remove_none [] none = refl
    remove_none (one ∷ seated) none =
        let first = All-head (IsOther number) one seated none in
        let rest = remove_none seated (All-tail (IsOther number) one seated none) in
        grind (arith, first, rest)

  -- behind the first one the others are in order, and who is at a place is at the one before it
  in_order_behind : (first : ℕ × X) (seated : List (ℕ × X)) → AreInOrder (first ∷ seated)
      → AreInOrder seated
  in_order_behind first seated ordered i j d low high =
      ordered (suc i) (suc j) d (omega (arith, low)) (omega (arith, high))

  seat_behind : (first : ℕ × X) (seated : List (ℕ × X)) (at number : ℕ)
      → IsSeatAt (first ∷ seated) (suc at) number → IsSeatAt seated at number
  seat_behind first seated at number here = record {
    within = omega (arith, here.within);
    numbered = here.numbered;
  }

  -- who comes before another one has another number
  first_is_other : (first : ℕ × X) (seated : List (ℕ × X)) (at number : ℕ)
      → AreInOrder (first ∷ seated) → IsSeatAt (first ∷ seated) (suc at) number
      → first.0 ≢ number
  first_is_other first seated at number ordered here same = omega (
    arith,
    ordered 0 (suc at) first (omega arith) here.within,
    here.numbered first,
    same,
  )

  -- the one of a number is found at its place, and taken away there
  pub lookup_at : (seated : List (ℕ × X)) (at number : ℕ) → AreInOrder seated
      → IsSeatAt seated at number → (d : ℕ × X)
      → lookup (λ one. one == number) seated ≡ Some (get_or seated at d).1
  lookup_at [] at number ordered here d = absurd (omega (arith, here.within))
  lookup_at (first ∷ seated) zero number ordered here d = grind (arith, here.numbered d)
  lookup_at (first ∷ seated) (suc at) number ordered here d =
      let other = first_is_other first seated at number ordered here in
      let rest = lookup_at seated at number (in_order_behind first seated ordered)
      (seat_behind first seated at number here) d in
      grind (arith, other, rest)

  pub remove_at : (seated : List (ℕ × X)) (at number : ℕ) → AreInOrder seated
      → IsSeatAt seated at number
      → remove_entry (λ one. one == number) seated ≡ remove seated at
  remove_at [] at number ordered here = absurd (omega (arith, here.within))
  remove_at (first ∷ seated) zero number ordered here = grind (arith, here.numbered first)
  remove_at (first ∷ seated) (suc at) number ordered here =
      let other = first_is_other first seated at number ordered here in
      let rest = remove_at seated at number (in_order_behind first seated ordered)
      (seat_behind first seated at number here) in
      grind (arith, other, rest)

  -- a row with one more at its end, whose number is above all others
  pub row_joined : (seated : List (ℕ × X)) (len : ℕ) (one : ℕ × X) → IsRow seated len
      → All (λ entry. entry.0 < one.0) seated → IsRow (seated ++ one ∷ []) (len + 1)
  row_joined seated len one row above = record {
    in_order = all_pairs_push (λ (first later : ℕ × X). first.0 < later.0) seated one
        row.in_order above;
    counted = omega (arith, row.counted, length-append seated (one ∷ []));
  }

  -- a row that the first one has left, where there was one
  pub row_left : (left : Option (ℕ × X)) (old new : List (ℕ × X)) (len len' : ℕ) → IsRow old len
      → old ≡ option_to_list left ++ new → len' + length (option_to_list left) ≡ len
      → IsRow new len'
  row_left None old new len len' row is counts = record {
    in_order = subst AreInOrder is row.in_order;
    counted = omega (arith, row.counted, counts, ap length is);
  }
  row_left (Some first) old new len len' row is counts = record {
    in_order = in_order_behind first new (subst AreInOrder is row.in_order);
    counted = omega (arith, row.counted, counts, ap length is);
  }
