-- The first part of the first line of a name.
use Rattle.std.proofs.Common.{◌≡◌, ℕ, ◌+◌, Bool, true, false, cond, not, eqb, suc, List, [], ◌∷◌, ◌++◌, take, map, filter, refl, ap, ◌∙◌, sym, arith, None, Some}
use Rattle.std.specs.Prelude.{codes, find, option_map, bytes_eq, ◌&&◌, if◌then◌else◌}
use Rattle.std.specs.List.{slice_get, slice_split, onto_first, position_or_len, flat_map, list_all}
use Rattle.message_parts.specs.Header.{Header}
use Rattle.message_fields.specs.Lines.{is_named, first_value}
use Rattle.message_fields.specs.Parts.{parts, parts_named, trimmed}
use Rattle.message_fields.specs.Lengths.{is_digits, length_digits, digits_first}

-- the first piece is what stands before the first place
pub split_first : (p : ℕ → Bool) (xs : List ℕ)
    → (rest : List (List ℕ)) × (slice_split p xs ≡ take (position_or_len p xs) xs ∷ rest)
split_first p [] = ([], refl)
split_first p (x ∷ xs) =
    let n : ℕ = position_or_len p xs in
    let one : 1 + n ≡ suc n = omega arith in
    let before = split_first p xs in
    elim (p x) as
    (λ b. (rest : List (List ℕ)) × (cond b ([] ∷ slice_split p xs) (onto_first x (slice_split p xs))
    ≡ take (cond (not b) (1 + n) 0) (x ∷ xs) ∷ rest)) [
      | true ↦ (slice_split p xs, refl)
      | false ↦ (before.0, rw one (ap (onto_first x) before.1))
    ]

-- the first part of a value
pub parts_first : (value : List ℕ)
    → (rest : List (List ℕ))
    × (parts value ≡ trimmed (take (position_or_len (λ b. eqb b 44) value) value) ∷ rest)
parts_first value =
    let cut = split_first (λ b. eqb b 44) value in (map trimmed cut.0, ap (map trimmed) cut.1)

-- the first part of two lists, where the first one has a part
first_of : (part : List ℕ) (xs rest ys : List (List ℕ)) → xs ≡ part ∷ rest
    → slice_get (xs ++ ys) 0 ≡ slice_get xs 0
first_of part xs rest ys e =
    ap (λ (zs : List (List ℕ)). slice_get (zs ++ ys) 0) e
    ∙ sym (ap (λ (zs : List (List ℕ)). slice_get zs 0) e)

-- a first value's first part is the first part of all
pub first_some : (name : List ℕ) (lines : List Header) (value part : List ℕ)
    → first_value name lines ≡ Some value → slice_get (parts value) 0 ≡ Some part
    → slice_get (parts_named name lines) 0 ≡ Some part
first_some name [] value part found first = absurd (cc)
first_some name (line ∷ lines) value part found first =
    let of_line = parts_first line.value in
    elim (is_named name line) as
    (λ b. option_map (λ line. line.value) (cond b (Some line) (find (is_named name) lines))
    ≡ Some value
    → slice_get (flat_map (λ line. parts line.value)
    (cond b (line ∷ filter (is_named name) lines) (filter (is_named name) lines))) 0 ≡ Some part) [
      | true ↦ λ e. let same : line.value ≡ value = cc in
          first_of _ (parts line.value) of_line.0 _ of_line.1
          ∙ ap (λ (v : List ℕ). slice_get (parts v) 0) same ∙ first
      | false ↦ λ e. first_some name lines value part e first
    ] found

-- with no line there is no part
pub first_none : (name : List ℕ) (lines : List Header) → first_value name lines ≡ None
    → parts_named name lines ≡ []
first_none name [] none = refl
first_none name (line ∷ lines) none =
    elim (is_named name line) as
    (λ b. option_map (λ line. line.value) (cond b (Some line) (find (is_named name) lines)) ≡ None
    → flat_map (λ line. parts line.value)
    (cond b (line ∷ filter (is_named name) lines) (filter (is_named name) lines)) ≡ []) [
      | true ↦ λ e. absurd (cc)
      | false ↦ λ e. first_none name lines e
    ] none

-- no line, no length
pub digits_none : (lines : List Header) → first_value (codes "content-length") lines ≡ None
    → length_digits lines ≡ None
digits_none lines none =
    let empty = first_none (codes "content-length") lines none in
    ap (λ (ps : List (List ℕ)). digits_first ps (slice_get ps 0)) empty

-- the first part is the length, where it is digits and all agree
pub digits_some : (lines : List Header) (value part : List ℕ)
    → first_value (codes "content-length") lines ≡ Some value
    → slice_get (parts value) 0 ≡ Some part
    → length_digits lines
    ≡ (if is_digits part && list_all (bytes_eq part) (parts_named (codes "content-length") lines)
    then Some part else None)
digits_some lines value part found first =
    ap (digits_first (parts_named (codes "content-length") lines))
    (first_some (codes "content-length") lines value part found first)
