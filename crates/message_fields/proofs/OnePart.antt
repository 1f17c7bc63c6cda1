-- One line of a name, and one part of its value.
use Rattle.std.proofs.Common.{◌≡◌, ℕ, ◌+◌, ◌-◌, ◌≤◌, ◌<◌, true, false, cond, eqb, List, [], ◌∷◌, ◌++◌, All, map, filter, get_or, length, drop, take_all, refl, ap, ◌∙◌, sym, arith, Some}
use Rattle.std.specs.Prelude.{codes, find, option_map, bytes_eq}
use Rattle.std.specs.List.{slice_get, prefix_len, suffix_len, flat_map}
use Rattle.std.specs.Str.Parse.{digits_value}
use Rattle.std.proofs.lemmas.Bool.Decides.{nat_tests}
use Rattle.std.proofs.lemmas.List.{append-nil}
use Rattle.std.proofs.lemmas.List.Elements.{All-from_get_or}
use Rattle.std.proofs.lemmas.List.Splits.{slice_split_none}
use Rattle.std.proofs.lemmas.List.Sums.{prefix_len-drop_no, suffix_len_is, sum_by-cons}
use Rattle.std.proofs.lemmas.Slice.Eq.{bytes_eq-Decides}
use Rattle.message_parts.specs.Header.{Header}
use Rattle.message_fields.specs.Lines.{is_named, count_named, first_value}
use Rattle.message_fields.specs.Parts.{is_blank, parts, parts_named, trimmed, trimmed_end}
use Rattle.message_fields.specs.Lengths.{digits_first, digits_length, is_digits, length_within, limited}
use Rattle.message_fields.proofs.Digits.{digit_at}

-- a digit is no blank and no comma
not_blank : (text : List ℕ) (i : ℕ) → is_digits text ≡ true → i < length text
    → is_blank (get_or text i 0) ≡ false
not_blank text i digits inside =
    let digit = digit_at text i digits inside in grind (arith, nat_tests)

not_comma : (text : List ℕ) (i : ℕ) → is_digits text ≡ true → i < length text
    → eqb (get_or text i 0) 44 ≡ false
not_comma text i digits inside =
    let digit = digit_at text i digits inside in grind (arith, nat_tests)

-- around digits there are no blanks
digits_trimmed : (text : List ℕ) → is_digits text ≡ true → trimmed text ≡ text
digits_trimmed text digits =
    let some : 0 < length text = grind (arith, nat_tests) in
    let before : prefix_len is_blank text ≡ 0 =
    prefix_len-drop_no is_blank text 0 0 some (not_blank text 0 digits some) in
    let behind : suffix_len is_blank text ≡ length text - length text =
    suffix_len_is is_blank text (length text) 0 (omega arith) (λ k from below. absurd (omega arith))
    (λ more. not_blank text (length text - 1) digits (omega arith)) in
    let whole : length text ≤ length text - suffix_len is_blank text = omega arith in
    ap (λ n. trimmed_end (drop n text)) before
    ∙ take_all (length text - suffix_len is_blank text) text whole

-- digits are one part
digits_part : (text : List ℕ) → is_digits text ≡ true → parts text ≡ text ∷ []
digits_part text digits =
    let none : All (λ b. eqb b 44 ≡ false) text =
    All-from_get_or (λ b. eqb b 44 ≡ false) text 0 (λ i inside. not_comma text i digits inside) in
    ap (map trimmed) (slice_split_none (λ b. eqb b 44) text none)
    ∙ ap (λ one. one ∷ []) (digits_trimmed text digits)

count_more : (name : List ℕ) (line : Header) (lines : List Header)
    → count_named name (line ∷ lines) ≡ cond (is_named name line) 1 0 + count_named name lines
count_more name line lines = sum_by-cons (λ x. cond (is_named name x) 1 0) line lines

-- with no line of a name there is none to be chosen
none_chosen : (name : List ℕ) (lines : List Header) → count_named name lines ≡ 0
    → filter (is_named name) lines ≡ []
none_chosen name [] none = refl
none_chosen name (line ∷ lines) none =
    elim (is_named name line) as
    (λ b. cond b 1 0 + count_named name lines ≡ 0
    → cond b (line ∷ filter (is_named name) lines) (filter (is_named name) lines) ≡ []) [
      | true ↦ λ some. absurd (omega (arith, some))
      | false ↦ λ rest. none_chosen name lines (omega (arith, rest))
    ] (sym (count_more name line lines) ∙ none)

-- the parts of one line alone
one_line : (name : List ℕ) (lines : List Header) (value : List ℕ)
    → first_value name lines ≡ Some value → count_named name lines ≡ 1
    → parts_named name lines ≡ parts value
one_line name [] value found one = absurd (cc)
one_line name (line ∷ lines) value found one =
    elim (is_named name line) as
    (λ b. option_map (λ line. line.value) (cond b (Some line) (find (is_named name) lines))
    ≡ Some value
    → cond b 1 0 + count_named name lines ≡ 1
    → flat_map (λ line. parts line.value)
    (cond b (line ∷ filter (is_named name) lines) (filter (is_named name) lines))
    ≡ parts value) [
      | true ↦ λ e count. let same : line.value ≡ value = cc in
          ap (λ rest. parts line.value ++ flat_map (λ line. parts line.value) rest)
          (none_chosen name lines (omega (arith, count)))
          ∙ append-nil (parts line.value) ∙ ap parts same
      | false ↦ λ e count. one_line name lines value e (omega (arith, count))
    ] found (sym (count_more name line lines) ∙ one)

-- of one line whose value is digits the length is theirs
pub length_alone : (most : ℕ) (lines : List Header) (value : List ℕ)
    → count_named (codes "content-length") lines ≡ 1
    → first_value (codes "content-length") lines ≡ Some value → is_digits value ≡ true
    → limited most (digits_value 10 value) ≡ length_within most lines
length_alone most lines value one found digits =
    let all : parts_named (codes "content-length") lines ≡ value ∷ [] =
    one_line (codes "content-length") lines value found one ∙ digits_part value digits in
    let same : bytes_eq value value ≡ true = (bytes_eq-Decides value value).1 refl in
    let only : digits_first (value ∷ []) (Some value) ≡ Some value = rw (digits, same) refl in
    ap (digits_length most)
    (sym (ap (λ (ps : List (List ℕ)). digits_first ps (slice_get ps 0)) all ∙ only))
