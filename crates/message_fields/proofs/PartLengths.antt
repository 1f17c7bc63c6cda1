-- A part is no longer than the value that it is cut from.
use Rattle.std.proofs.Common.{ap, ◌≡◌, ℕ, ◌-◌, ◌≤◌, ◌<◌, Bool, true, false, List, [], ◌∷◌, All, length, ◌∙◌, sym, refl, arith, suc, cond, eqb, ◌&&◌, length-take, length-drop}
use Rattle.std.specs.Prelude.{codes}
use Rattle.std.specs.List.{list_any, onto_first, slice_split, prefix_len, suffix_len}
use Rattle.std.proofs.lemmas.List.Elements.{All-cons, All-head, All-nil, All-tail, All-weaker}
use Rattle.std.proofs.lemmas.List.Folds.{list_any_none}
use Rattle.message_parts.specs.Names.{same_name}
use Rattle.message_fields.specs.Parts.{is_blank, trimmed, trimmed_start, parts}
use Rattle.message_fields.proofs.SameName.{other_length}
use Rattle.lemmas.proofs.Tests.{list_any-map}

-- of so many bytes at most
abbrev Short : ℕ → List ℕ → Type 0
Short n text = length text ≤ n

-- blanks that are taken off make nothing longer
trimmed_short : (text : List ℕ) → length (trimmed text) ≤ length text
trimmed_short text =
    let front : List ℕ = trimmed_start text in
    let start = length-drop (prefix_len is_blank text) text in
    let end = length-take (length front - suffix_len is_blank front) front in
    omega (arith, start, end)

-- a piece that gets one more at its front
onto_short : (x n : ℕ) (pieces : List (List ℕ)) → All (Short n) pieces
    → All (Short (suc n)) (onto_first x pieces)
onto_short x n [] all = All-cons (Short (suc n)) (x ∷ []) [] (omega arith) (All-nil (Short (suc n)))
onto_short x n (piece ∷ pieces) all =
    let one : length piece ≤ n = All-head (Short n) piece pieces all in
    All-cons (Short (suc n)) (x ∷ piece) pieces (omega (arith, one))
    (All-weaker (Short n) (Short (suc n)) (λ p short. omega (arith, short)) pieces
    (All-tail (Short n) piece pieces all))

-- each piece of a text
split_short : (p : ℕ → Bool) (text : List ℕ) → All (Short (length text)) (slice_split p text)
split_short p [] = All-cons (Short 0) [] [] (omega arith) (All-nil (Short 0))
split_short p (x ∷ text) =
    let rest = split_short p text in
    elim (p x) as
    (λ b. All (Short (suc (length text)))
    (cond b ([] ∷ slice_split p text) (onto_first x (slice_split p text)))) [
      | true ↦ All-cons (Short (suc (length text))) [] (slice_split p text) (omega arith)
          (All-weaker (Short (length text)) (Short (suc (length text)))
          (λ p short. omega (arith, short)) (slice_split p text) rest)
      | false ↦ onto_short x (length text) (slice_split p text) rest
    ]

-- a name that is longer than a value is none of its parts
longer_is_no_part : (value name : List ℕ) → length value < length name
    → list_any (λ part. same_name part name) (parts value) ≡ false
longer_is_no_part value name longer =
    let pieces : List (List ℕ) = slice_split (λ b. eqb b 44) value in
    let other : (piece : List ℕ) → length piece ≤ length value
    → same_name (trimmed piece) name ≡ false =
    λ piece short. other_length (trimmed piece) name (λ same.
    omega (arith, trimmed_short piece, short, same, longer)) in
    sym (list_any-map (λ part. same_name part name) trimmed pieces)
    ∙ list_any_none (λ piece. same_name (trimmed piece) name) pieces
    (All-weaker (Short (length value)) (λ piece. same_name (trimmed piece) name ≡ false) other
    pieces (split_short (λ b. eqb b 44) value))

-- so a line whose value is shorter than a name doesn't name it
pub longer_names_none : (b : Bool) (value name : List ℕ) → length value < length name
    → false ≡ (b && list_any (λ part. same_name part name) (parts value))
longer_names_none true value name longer = sym (longer_is_no_part value name longer)
longer_names_none false value name longer = refl

-- a name that is shorter than a word without a comma or a blank is no part of that
word_is_longer : (word value name : List ℕ) → parts word ≡ word ∷ [] → value ≡ word
    → length name < length word → list_any (λ part. same_name part name) (parts value) ≡ false
word_is_longer word value name alone is shorter =
    let other : same_name word name ≡ false =
    other_length word name (λ same. omega (arith, same, shorter)) in
    ap (λ text. list_any (λ part. same_name part name) (parts text)) is
    ∙ ap (list_any (λ part. same_name part name)) alone ∙ rw other refl

pub close_is_longer : (value name : List ℕ) → value ≡ codes "close" → length name < 5
    → list_any (λ part. same_name part name) (parts value) ≡ false
close_is_longer value name is shorter =
    word_is_longer (codes "close") value name refl is shorter

pub keep_alive_is_longer : (value name : List ℕ) → value ≡ codes "keep-alive" → length name < 10
    → list_any (λ part. same_name part name) (parts value) ≡ false
keep_alive_is_longer value name is shorter =
    word_is_longer (codes "keep-alive") value name refl is shorter
