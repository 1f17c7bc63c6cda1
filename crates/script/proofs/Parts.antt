-- Texts cut at a byte: the first line and the lines after it, the first word and the words after
-- it.
use Rattle.std.proofs.Common.{◌≡◌, ℕ, ◌+◌, ◌<◌, ◌≤◌, Bool, true, false, cond, not, eqb, List, [], ◌∷◌, length, take, drop, refl, ap, ◌∙◌, sym, arith, filter, ltb, suc, add-one, get_or, drop-cons, inl, inr, length-take-le}
use Rattle.std.proofs.lemmas.Grind.{common_steps}
use Rattle.std.specs.List.{slice_split, onto_first, prefix_len, position_or_len, after_first}
use Rattle.std.specs.Str.Lines.{lines, lines_of_parts, strip_carriage_return}
use Rattle.std.proofs.lemmas.List.Splits.{length-slice_split, slice_split_first, slice_split-cons_yes}
use Rattle.std.proofs.lemmas.List.Sums.{prefix_len-le-length, passes_at_first}
use Rattle.std.proofs.lemmas.Bool.{cases_lt}
use Rattle.std.proofs.lemmas.Bool.Decides.{nat_tests, Decides-eqb}
use Rattle.script.specs.Words.{words}

-- where no element passes the list is the one part
split_whole : (p : ℕ → Bool) (xs : List ℕ) → position_or_len p xs ≡ length xs
    → slice_split p xs ≡ xs ∷ []
split_whole p [] h = refl
split_whole p (x ∷ xs) h =
    elim (p x) as
    (λ b. cond (not b) (1 + position_or_len p xs) 0 ≡ suc (length xs)
    → cond b ([] ∷ slice_split p xs) (onto_first x (slice_split p xs)) ≡ (x ∷ xs) ∷ []) [
      | true ↦ λ e. absurd (omega (arith, e))
      | false ↦ λ e. ap (onto_first x) (split_whole p xs (omega (arith, e)))
    ] h

-- a part before another one ends in a newline
parts_first : (line : List ℕ) (parts : List (List ℕ)) → 0 < length parts
    → lines_of_parts (line ∷ parts) ≡ strip_carriage_return line ∷ lines_of_parts parts
parts_first line [] h = absurd (omega (arith, h))
parts_first line (x ∷ parts) h = refl

-- a text without a newline is one line
pub lines_whole : (xs : List ℕ) → 0 < length xs → position_or_len (λ b. eqb b 10) xs ≡ length xs
    → lines xs ≡ xs ∷ []
lines_whole (x ∷ xs) h e =
    ap lines_of_parts (split_whole (λ b. eqb b 10) (x ∷ xs) e) ∙ grind (arith, nat_tests)
lines_whole [] h e = absurd (omega (arith, h))

-- the line before the first newline, and the lines after it
pub lines_first : (xs : List ℕ) → position_or_len (λ b. eqb b 10) xs < length xs
    → lines xs
    ≡ strip_carriage_return (take (position_or_len (λ b. eqb b 10) xs) xs)
    ∷ lines (drop (position_or_len (λ b. eqb b 10) xs + 1) xs)
lines_first xs h =
    let p : ℕ → Bool = λ b. eqb b 10 in
    ap lines_of_parts (slice_split_first p xs 0 h)
    ∙ parts_first _ (slice_split p (after_first p xs))
    (omega (arith, length-slice_split p (after_first p xs)))

-- a space in front is in no word
pub words_spaces : (xs : List ℕ) → words (drop (prefix_len (λ b. eqb b 32) xs) xs) ≡ words xs
words_spaces [] = refl
words_spaces (x ∷ xs) =
    elim (eqb x 32) as
    (λ b. eqb x 32 ≡ b
    → words (drop (cond b (1 + prefix_len (λ b. eqb b 32) xs) 0) (x ∷ xs)) ≡ words (x ∷ xs)) [
      | true ↦ λ e. let one : 1 + prefix_len (λ b. eqb b 32) xs
          ≡ suc (prefix_len (λ b. eqb b 32) xs) = omega arith in
          rw one (words_spaces xs
          ∙ sym
          (ap (filter (λ part. ltb 0 (length part))) (slice_split-cons_yes (λ b. eqb b 32) x xs e)))
      | false ↦ λ e. refl
    ] refl

-- after the spaces in front stands a byte of a word
pub word_after_spaces : (xs : List ℕ) → 0 < length (drop (prefix_len (λ b. eqb b 32) xs) xs)
    → 0 < position_or_len (λ b. eqb b 32) (drop (prefix_len (λ b. eqb b 32) xs) xs)
word_after_spaces [] h = absurd (omega (arith, h))
word_after_spaces (x ∷ xs) h =
    let n : ℕ = prefix_len (λ b. eqb b 32) xs in
    let one : 1 + n ≡ suc n = omega arith in
    elim (eqb x 32) as
    (λ b. eqb x 32 ≡ b → 0 < length (drop (cond b (1 + n) 0) (x ∷ xs))
    → 0 < position_or_len (λ b. eqb b 32) (drop (cond b (1 + n) 0) (x ∷ xs))) [
      | true ↦ λ e. rw one (word_after_spaces xs)
      | false ↦ λ e k. rw e (omega arith)
    ] refl h

-- a word that is not empty stays
word_kept : (word : List ℕ) (parts : List (List ℕ)) → 0 < length word
    → filter (λ part. ltb 0 (length part)) (word ∷ parts)
    ≡ word ∷ filter (λ part. ltb 0 (length part)) parts
word_kept [] parts h = absurd (omega (arith, h))
word_kept (x ∷ word) parts h = grind (arith, nat_tests)

-- where an element passes, it stands in front of what stands after it
drop_first : (p : ℕ → Bool) (xs : List ℕ) → position_or_len p xs < length xs
    → drop (position_or_len p xs) xs ≡ get_or xs (position_or_len p xs) 0 ∷ after_first p xs
drop_first p xs h = rw (add-one, drop-cons xs (position_or_len p xs) 0) refl

-- the word in front, and the words after it
pub words_first : (xs : List ℕ) → 0 < position_or_len (λ b. eqb b 32) xs
    → words xs
    ≡ take (position_or_len (λ b. eqb b 32) xs) xs
    ∷ words (drop (position_or_len (λ b. eqb b 32) xs) xs)
words_first xs h =
    let p : ℕ → Bool = λ b. eqb b 32 in
    let k : ℕ = position_or_len p xs in
    let within : k ≤ length xs = prefix_len-le-length (λ x. not (p x)) xs in
    let long : List ℕ → Bool = λ part. ltb 0 (length part) in
    let result : Type 0 = words xs ≡ take k xs ∷ words (drop k xs) in
    elim (cases_lt k (length xs)) as (λ _. result) [
      | inl inside ↦
          let front : length (take k xs) ≡ k = length-take-le k xs within in
          let after : List ℕ = after_first p xs in
          let space : get_or xs k 0 ≡ 32 =
          (Decides-eqb (get_or xs k 0) 32).0 (passes_at_first p xs 0 inside) in
          let rest : words (drop k xs) ≡ words after =
          ap words (drop_first p xs inside ∙ ap (λ b. b ∷ after) space) in
          ap (filter long) (slice_split_first p xs 0 inside)
          ∙ word_kept (take k xs) (slice_split p after) (omega arith)
          ∙ ap (λ ws. take k xs ∷ ws) (sym rest)
      | inr past ↦
          let all : k ≡ length xs = omega arith in
          let front : take k xs ≡ xs = grind (arith, common_steps) in
          let rest : drop k xs ≡ [] = grind (arith, common_steps) in
          ap (filter long) (split_whole p xs all) ∙ word_kept xs [] (omega arith)
          ∙ rw (front, rest) refl
    ]
