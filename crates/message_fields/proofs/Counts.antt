-- How many lines of a field stand among the first, with the next line.
use Rattle.std.proofs.Common.{◌≡◌, ◌≢◌, ℕ, ◌+◌, ◌<◌, List, cond, get_or, length, take, arith, ap, ◌∙◌, sym}
use Rattle.std.proofs.lemmas.List.Sums.{sum_by_more}
use Rattle.message_parts.specs.declared.field.Field.{Field}
use Rattle.message_parts.specs.declared.field.Field.TheVariants as field
use Rattle.message_parts.specs.Field.{IsFieldOf, name_of}
use Rattle.message_parts.specs.Header.{Header}
use Rattle.message_fields.specs.Lines.{is_named, count_named}
use Rattle.message_fields.proofs.FieldNames.{has_name, has_other_name}

next : (name : List ℕ) (lines : List Header) (i : ℕ) (line : Header) → i < length lines
    → line ≡ get_or lines i line
    → count_named name (take (i + 1) lines)
    ≡ count_named name (take i lines) + cond (is_named name line) 1 0
next name lines i line inside is =
    let one : Header → ℕ = λ x. cond (is_named name x) 1 0 in
    sum_by_more one lines i line inside ∙ ap (λ x. count_named name (take i lines) + one x) (sym is)

-- the next line is of the field
pub one_more : (one found : Field) (lines : List Header) (i : ℕ) (line : Header)
    → i < length lines → line ≡ get_or lines i line → one ≢ field.Other
    → IsFieldOf found line.name → (n more : ℕ) → found ≡ one
    → n ≡ count_named (name_of one) (take i lines) → more ≡ n + 1
    → more ≡ count_named (name_of one) (take (i + 1) lines)
one_more one found lines i line inside is known told n more that counted raised =
    let named = has_name one found line.name known told that in
    let one_line = ap {B = ℕ} (λ b. cond b 1 0) named in
    omega (arith, next (name_of one) lines i line inside is, one_line)

-- it is of another
pub as_many : (one found : Field) (lines : List Header) (i : ℕ) (line : Header)
    → i < length lines → line ≡ get_or lines i line → one ≢ field.Other
    → IsFieldOf found line.name → (n more : ℕ) → found ≢ one
    → n ≡ count_named (name_of one) (take i lines) → more ≡ n
    → more ≡ count_named (name_of one) (take (i + 1) lines)
as_many one found lines i line inside is known told n more apart counted same =
    let other = has_other_name one found line.name known told apart in
    let none = ap {B = ℕ} (λ b. cond b 1 0) other in
    omega (arith, next (name_of one) lines i line inside is, none)
