-- Lines that are kept, written one after the other.
use Rattle.std.proofs.Common.{◌≡◌, ℕ, ◌+◌, ◌<◌, Bool, true, false, cond, List, [], ◌∷◌, ◌++◌, map, filter, refl, ap, subst, sym, ◌∙◌, Option, take, drop, get_or, length, ◌≤◌, Result, OnErr}
use Rattle.std.specs.List.{flat_map}
use Rattle.std.specs.Io.KnownBytes.{Appends}
use Rattle.std.proofs.lemmas.List.{append-nil, take_all, take_more, take-append-drop}
use Rattle.std.proofs.lemmas.Grind.{flat_map-append}
use Rattle.message_text.proofs.Fronts.{Front, front_err, front_first, front_of, front_second}
use Rattle.message_parts.specs.Header.{Header}
use Rattle.message_text.specs.Line.{line_text, lines_text}

-- the texts of what is kept, one after the other
pub kept_texts : {X Y : Type 0} (p : X → Bool) (f : X → Y) (text : Y → List ℕ) (xs : List X)
    → flat_map (λ x. cond (p x) (text (f x)) []) xs ≡ flat_map text (map f (filter p xs))
kept_texts p f text [] = refl
kept_texts p f text (x ∷ xs) =
    elim (p x) as
    (λ b. cond b (text (f x)) [] ++ flat_map (λ x. cond (p x) (text (f x)) []) xs
    ≡ flat_map text (map f (cond b (x ∷ filter p xs) (filter p xs)))) [
      | true ↦ ap (λ (r : List ℕ). text (f x) ++ r) (kept_texts p f text xs)
      | false ↦ kept_texts p f text xs
    ]

-- the same, where each is written as it is
pub kept_as_they_are : {X : Type 0} (p : X → Bool) (text : X → List ℕ) (xs : List X)
    → flat_map (λ x. cond (p x) (text x) []) xs ≡ flat_map text (filter p xs)
kept_as_they_are p text [] = refl
kept_as_they_are p text (x ∷ xs) =
    elim (p x) as
    (λ b. cond b (text x) [] ++ flat_map (λ x. cond (p x) (text x) []) xs
    ≡ flat_map text (cond b (x ∷ filter p xs) (filter p xs))) [
      | true ↦ ap (λ (r : List ℕ). text x ++ r) (kept_as_they_are p text xs)
      | false ↦ kept_as_they_are p text xs
    ]

-- one line is its text
pub one_line : (line : Header) → lines_text (line ∷ []) ≡ line_text line
unfolding lines_text
one_line line = append-nil (line_text line)

-- all lines were looked at, and those that are kept were written
pub wrote_kept : (a b : Option (List ℕ)) (p : Header → Bool) (f : Header → Header)
    (lines : List Header) (n : ℕ) → length lines ≤ n
    → Appends a b (flat_map (λ x. cond (p x) (line_text (f x)) []) (take n lines))
    → Appends a b (lines_text (map f (filter p lines)))
unfolding lines_text
wrote_kept a b p f lines n all written =
    subst (Appends a b)
    (ap (flat_map (λ x. cond (p x) (line_text (f x)) [])) (take_all n lines all)
    ∙ kept_texts p f line_text lines) written

-- the same, where each is written as it is
pub wrote_as_they_are : (a b : Option (List ℕ)) (p : Header → Bool)
    (lines : List Header) (n : ℕ) → length lines ≤ n
    → Appends a b (flat_map (λ x. cond (p x) (line_text x) []) (take n lines))
    → Appends a b (lines_text (filter p lines))
unfolding lines_text
wrote_as_they_are a b p lines n all written =
    subst (Appends a b)
    (ap (flat_map (λ x. cond (p x) (line_text x) [])) (take_all n lines all)
    ∙ kept_as_they_are p line_text lines) written

-- so many lines were looked at, and of the next one a front was written, if it is kept
module _ (a b c : Option (List ℕ)) (lines : List Header) (i : ℕ) (d : Header)
    (lt : i < length lines) where
  front_here : (text : Header → List ℕ) → Appends a b (flat_map text (take i lines))
      → Front b c (text (get_or lines i d)) → Front a c (flat_map text lines)
  front_here text p q =
      let line = get_or lines i d in
      let here : flat_map text (take (i + 1) lines)
      ≡ flat_map text (take i lines) ++ flat_map text (line ∷ []) =
      ap (flat_map text) (take_more lines i d lt)
      ∙ flat_map-append text (take i lines) (line ∷ []) in
      let all : flat_map text lines
      ≡ flat_map text (take (i + 1) lines) ++ flat_map text (drop (i + 1) lines) =
      ap (flat_map text) (sym (take-append-drop (i + 1) lines))
      ∙ flat_map-append text (take (i + 1) lines) (drop (i + 1) lines) in
      front_of a c _ _ all (front_first a c _ _ (front_of a c _ _ here
      (front_second a b c _ _ p (front_first b c (text line) [] q))))

  pub front_kept : {T E : Type 0} (r : Result T E) (p : Header → Bool) (f : Header → Header)
      → Appends a b (flat_map (λ x. cond (p x) (line_text (f x)) []) (take i lines))
      → Front b c (cond (p (get_or lines i d)) (line_text (f (get_or lines i d))) [])
      → OnErr r (Front a c (lines_text (map f (filter p lines))))
  unfolding lines_text
  front_kept r p f written last =
      front_err r a c _ _ (sym (kept_texts p f line_text lines))
      (front_here (λ x. cond (p x) (line_text (f x)) []) written last)

  pub front_as_they_are : {T E : Type 0} (r : Result T E) (p : Header → Bool)
      → Appends a b (flat_map (λ x. cond (p x) (line_text x) []) (take i lines))
      → Front b c (cond (p (get_or lines i d)) (line_text (get_or lines i d)) [])
      → OnErr r (Front a c (lines_text (filter p lines)))
  unfolding lines_text
  front_as_they_are r p written last =
      front_err r a c _ _ (sym (kept_as_they_are p line_text lines))
      (front_here (λ x. cond (p x) (line_text x) []) written last)
