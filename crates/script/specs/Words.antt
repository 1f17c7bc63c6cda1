-- The words of a line, the numbers that words spell, and what is read of the words in front.
use Rattle.std.specs.Prelude.{ℕ, ◌^◌, ◌-◌, min, Bool, ◌==◌, nat_lt, nat_le, ◌&&◌, List, [], ◌∷◌, length, filter, Option, None, Some, option_map, option_and_then, Result, Ok, Err, if◌then◌else◌}
use Rattle.std.specs.List.{slice_split, list_all}
use Rattle.std.specs.Char.{is_ascii_digit}
use Rattle.std.specs.Str.Parse.{digits_value}

-- the words of a line: the parts between spaces that are not empty
abbrev pub words : List ℕ → List (List ℕ)
words line = filter (λ part. nat_lt 0 (length part)) (slice_split (λ byte. byte == 32) line)

-- 1 to 20 digits whose value fits a `u64`
abbrev pub is_number : List ℕ → Bool
is_number word =
    nat_lt 0 (length word) && nat_le (length word) 20
    && list_all is_ascii_digit word && nat_lt (digits_value 10 word) (2 ^ 64)

-- the number that a word spells
abbrev pub number_of : List ℕ → Option ℕ
number_of word = if is_number word then Some (digits_value 10 word) else None

-- the number in front, and the words behind it; nothing where no number is in front
abbrev pub first_number : List (List ℕ) → Option (ℕ × List (List ℕ))
first_number [] = None
first_number (word ∷ rest) = option_map (λ n. (n, rest)) (number_of word)

-- what is made of the number in front and the words behind it
abbrev pub with_number : {A : Type 0} → (ℕ → List (List ℕ) → Option A) → List (List ℕ) → Option A
with_number f ws = option_and_then (λ cut. f cut.0 cut.1) (first_number ws)

-- a number in 32 bits: one of 2^32 or more is in no range of a count, and is taken as the greatest
-- of these, which is in none either
abbrev pub in_32_bits : ℕ → ℕ
in_32_bits n = min n (2 ^ 32 - 1)

-- the same of a count in front: of permits, of samples, of thousandths
abbrev pub first_count : List (List ℕ) → Option (ℕ × List (List ℕ))
first_count ws = option_map (λ cut. (in_32_bits cut.0, cut.1)) (first_number ws)

abbrev pub with_count : {A : Type 0} → (ℕ → List (List ℕ) → Option A) → List (List ℕ) → Option A
with_count f ws = option_and_then (λ cut. f cut.0 cut.1) (first_count ws)

-- what is made of the word in front and the words behind it
abbrev pub with_word :
    {A : Type 0} → (List ℕ → List (List ℕ) → Option A) → List (List ℕ) → Option A
with_word f [] = None
with_word f (word ∷ rest) = f word rest

-- what was made of the words before, where no word is left
abbrev pub alone : {A : Type 0} → A → List (List ℕ) → Option A
alone a [] = Some a
alone a _ = None

-- the number of a line that has no other word
abbrev pub lone_number : List (List ℕ) → Option ℕ
lone_number ws = with_number alone ws

-- the two numbers of a line that has no other word
abbrev pub number_pair : List (List ℕ) → Option (ℕ × ℕ)
number_pair ws = with_number (λ n rest. option_map (λ m. (n, m)) (lone_number rest)) ws

-- what is made of an answer, where it is no fault
abbrev pub result_map : {A B E : Type 0} → (A → B) → Result A E → Result B E
result_map f (Ok a) = Ok (f a)
result_map f (Err why) = Err why
