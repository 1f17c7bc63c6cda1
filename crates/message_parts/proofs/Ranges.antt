-- Ranges of a text that lie side by side.
use Rattle.std.proofs.Common.{◌≡◌, ℕ, ◌+◌, ◌-◌, ◌≤◌, List, [], ◌∷◌, ◌++◌, take, drop, slice_range, ◌∙◌, ap, ap₂, arith, take-add, drop-drop, length, length-take}
use Rattle.std.proofs.lemmas.List.{drop-take, take-take}

-- a range, cut at a place within it
pub cut_at : {X : Type 0} (xs : List X) (a b c : ℕ) → a ≤ b → b ≤ c
    → slice_range xs a c ≡ slice_range xs a b ++ slice_range xs b c
cut_at xs a b c first second =
    let both : c - a ≡ (b - a) + (c - b) = omega arith in
    let behind : a + (b - a) ≡ b = omega arith in
    ap (λ n. take n (drop a xs)) both
    ∙ take-add (b - a) (c - b) (drop a xs)
    ∙ ap (λ ys. slice_range xs a b ++ take (c - b) ys)
    (drop-drop (b - a) a xs ∙ ap (λ n. drop n xs) behind)

-- a line that lies in a text
pub line_in : (text name : List ℕ) (start colon value end behind : ℕ)
    → start ≤ colon → colon ≤ value → value ≤ end → end ≤ behind
    → slice_range text start colon ≡ name
    → slice_range text colon value ≡ 58 ∷ 32 ∷ []
    → slice_range text end behind ≡ 13 ∷ 10 ∷ []
    → slice_range text start behind
    ≡ name ++ 58 ∷ 32 ∷ (slice_range text value end ++ 13 ∷ 10 ∷ [])
line_in text name start colon value end behind a b c d named parted ended =
    cut_at text start colon behind a (omega arith)
    ∙ ap₂ (λ xs ys. xs ++ ys) named
    (cut_at text colon value behind b (omega arith)
    ∙ ap₂ (λ xs ys. xs ++ ys) parted
    (cut_at text value end behind c d ∙ ap (λ ys. slice_range text value end ++ ys) ended))

-- a first line that lies in a text
pub first_line_in : (text target last : List ℕ) (start space from end behind : ℕ)
    → start ≤ space → space ≤ from → from ≤ end → end ≤ behind
    → slice_range text space from ≡ 32 ∷ []
    → slice_range text from end ≡ target
    → slice_range text end behind ≡ last
    → slice_range text start behind
    ≡ slice_range text start space ++ 32 ∷ (target ++ last)
first_line_in text target last start space from end behind a b c d parted aimed ended =
    cut_at text start space behind a (omega arith)
    ∙ ap (λ ys. slice_range text start space ++ ys)
    (cut_at text space from behind b (omega arith)
    ∙ ap₂ (λ xs ys. xs ++ ys) parted
    (cut_at text from end behind c d ∙ ap₂ (λ xs ys. xs ++ ys) aimed ended))

-- a range of a range
pub range_in_range : {X : Type 0} (xs : List X) (a b start end : ℕ) → start ≤ end
    → end ≤ length (slice_range xs a b)
    → slice_range (slice_range xs a b) start end ≡ slice_range xs (a + start) (a + end)
range_in_range xs a b start end ordered inside =
    let front = drop a xs in
    let size = length-take (b - a) front in
    let fits : end ≤ b - a = omega (arith, inside, size) in
    let cut : b - a ≡ start + (b - a - start) = omega arith in
    let less : end - start ≤ b - a - start = omega arith in
    let same : end - start ≡ (a + end) - (a + start) = omega arith in
    ap (λ n. take (end - start) (drop start (take n front))) cut
    ∙ ap (take (end - start)) (drop-take start (b - a - start) front)
    ∙ take-take (end - start) (b - a - start) (drop start front) less
    ∙ ap (take (end - start)) (drop-drop start a xs)
    ∙ ap (λ n. take n (drop (a + start) xs)) same
