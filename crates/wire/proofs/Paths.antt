-- Paths are text.
use Rattle.std.proofs.Common.{rules, arith, ◌≡◌, ◌<◌, ◌≤◌, ◌+◌, ◌-◌, ◌==◌, ◌∙◌, ap, sym, subst, min, refl, ℕ, Bool, true, false, List, [], ◌∷◌, length, length-drop, take, drop, drop-drop, slice_range, IsUtf8}
use Rattle.std.proofs.lemmas.List.{drop_min}
use Rattle.std.specs.Prelude.{if◌then◌else◌, codes, get_or}
use Rattle.std.specs.Str.{IsCharBoundary}
use Rattle.std.specs.List.{before_first, position_or_len}
use Rattle.std.proofs.lemmas.List.Sums.{passes_at_first}
use Rattle.std.proofs.lemmas.Str.{IsCharBoundary-after_ascii, IsCharBoundary-before_ascii, IsUtf8-append, IsUtf8-drop, IsUtf8-from_ascii, IsUtf8-take}
use Rattle.message_fields.specs.Target.{after_authority, ends_authority, is_absolute, local_part, path_of, wants_slash}
use Rattle.std.proofs.Common.{map, not, ◌||◌}
use Rattle.std.specs.Char.{to_ascii_lowercase}
use Rattle.std.proofs.lemmas.List.Sums.{prefix_len-le-length}
use Rattle.std.proofs.Math.Seq.{take-append-add}
use Rattle.std.proofs.lemmas.Slice.Eq.{bytes_eq-Decides}
use Rattle.message_parts.specs.Names.{same_name}

abbrev is_query : ℕ → Bool
is_query byte = byte == 63

-- a text may be cut before the first ASCII byte of a kind
cut_before : (p : ℕ → Bool) → ((b : ℕ) → p b ≡ true → b < 128) → (xs : List ℕ)
    → IsCharBoundary xs (position_or_len p xs)
cut_before p ascii xs = (
  prefix_len-le-length (λ x. not (p x)) xs,
  λ inside. (IsCharBoundary-before_ascii xs (position_or_len p xs) inside
      (ascii _ (passes_at_first p xs 0 inside))).1 inside,
)

query_ascii : (b : ℕ) → is_query b ≡ true → b < 128
query_ascii b is = let same : b ≡ 63 = search rules in omega (arith, same)

end_ascii : (b : ℕ) → ends_authority b ≡ true → b < 128
end_ascii b is = go (b == 47) refl is
  where
    go : (t : Bool) → (b == 47) ≡ t → (t || (b == 63)) ≡ true → b < 128
    go true e is = let same : b ≡ 47 = search rules in omega (arith, same)
    go false e is = let same : b ≡ 63 = search rules in omega (arith, same)

before_is_text : (xs : List ℕ) → IsUtf8 xs → IsUtf8 (before_first is_query xs)
before_is_text xs text =
    IsUtf8-take xs (position_or_len is_query xs) text (cut_before is_query query_ascii xs)

after_is_text : (xs : List ℕ) → IsUtf8 xs → IsUtf8 (after_authority xs)
after_is_text xs text =
    IsUtf8-drop xs (position_or_len ends_authority xs) text
    (cut_before ends_authority end_ascii xs)

lower_ascii : (b : ℕ) → to_ascii_lowercase b ≡ 47 → b < 128
lower_ascii b is = search rules

-- the seventh byte of `http://`
seventh : (t : List ℕ) → map to_ascii_lowercase (take 7 t) ≡ codes "http://"
    → (6 < length t) × (get_or t 6 0 < 128)
seventh [] is = search rules
seventh (a ∷ []) is = search rules
seventh (a ∷ b ∷ []) is = search rules
seventh (a ∷ b ∷ c ∷ []) is = search rules
seventh (a ∷ b ∷ c ∷ d ∷ []) is = search rules
seventh (a ∷ b ∷ c ∷ d ∷ e ∷ []) is = search rules
seventh (a ∷ b ∷ c ∷ d ∷ e ∷ f ∷ []) is = search rules
seventh (a ∷ b ∷ c ∷ d ∷ e ∷ f ∷ g ∷ rest) is =
    let slash : to_ascii_lowercase g ≡ 47 = search rules in
    let low : g < 128 = lower_ascii g slash in
    (omega arith, low)

same_spelling : (a : List ℕ) → same_name a (codes "http://") ≡ true
    → map to_ascii_lowercase a ≡ codes "http://"
unfolding same_name
same_spelling a is =
    let decides = bytes_eq-Decides (map to_ascii_lowercase a)
    (map to_ascii_lowercase (codes "http://")) in
    decides.0 is

local_is_text : (t : List ℕ) → IsUtf8 t → IsUtf8 (local_part t)
local_is_text t text = go (is_absolute t) refl
  where
    go : (b : Bool) → is_absolute t ≡ b
        → IsUtf8 (if b then after_authority (drop 7 t) else t)
    go false e = text
    go true e =
        let spelled : same_name (take 7 t) (codes "http://") ≡ true = e in
        let head = seventh t (same_spelling (take 7 t) spelled) in
        after_is_text (drop 7 t)
        (IsUtf8-drop t 7 text (IsCharBoundary-after_ascii t 6 text head.0 head.1))

pub local_path_is_text : (t : List ℕ) → IsUtf8 t → IsUtf8 (before_first is_query (local_part t))
local_path_is_text t text = before_is_text (local_part t) (local_is_text t text)

rest_at : (t : List ℕ) (k : ℕ)
    → (length (drop k t) ≤ length t) × (drop (length t - length (drop k t)) t ≡ drop k t)
rest_at t k =
    let size = length-drop k t in
    let start : length t - length (drop k t) ≡ min k (length t) = omega (arith, size) in
    (omega (arith, size), ap (λ n. drop n t) start ∙ drop_min k t)

-- a local part is the rest of its target
pub local_part_is_rest : (t : List ℕ)
    → (length (local_part t) ≤ length t)
    × (drop (length t - length (local_part t)) t ≡ local_part t)
local_part_is_rest t = go (is_absolute t)
  where
    IsRest : List ℕ → Type 0
    IsRest l = (length l ≤ length t) × (drop (length t - length l) t ≡ l)

    go : (b : Bool) → IsRest (if b then after_authority (drop 7 t) else t)
    go false = rest_at t 0
    go true =
        let at = position_or_len ends_authority (drop 7 t) in
        subst IsRest (sym (drop-drop at 7 t)) (rest_at t (7 + at))

-- and its path a range of it
pub local_path_range : (t : List ℕ) (q : ℕ)
    → slice_range t (length t - length (local_part t)) (length t - length (local_part t) + q)
    ≡ take q (local_part t)
local_path_range t q =
    let start = length t - length (local_part t) in
    let same : start + q - start ≡ q = omega arith in
    ap (λ n. take n (drop start t)) same ∙ ap (take q) ((local_part_is_rest t).1)

-- with a `/` in front it is text, too
pub slash_path_is_text : (t : List ℕ) → IsUtf8 t
    → IsUtf8 (47 ∷ before_first is_query (local_part t))
slash_path_is_text t text =
    IsUtf8-append (47 ∷ []) (before_first is_query (local_part t))
    (IsUtf8-from_ascii (47 ∷ []) (search rules)) (local_path_is_text t text)

-- a path begins with the `/` that is set before it
pub path_slash : (t : List ℕ) → wants_slash t ≡ true
    → path_of t ≡ 47 ∷ before_first is_query (local_part t)
path_slash t is =
    rw is (take-append-add (47 ∷ []) (local_part t) (position_or_len is_query (local_part t)))

pub path_bare : (t : List ℕ) → wants_slash t ≡ false
    → path_of t ≡ before_first is_query (local_part t)
path_bare t is = rw is refl
