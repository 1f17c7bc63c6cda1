-- Bytes in which no LF stands in front of a place.
use Rattle.std.proofs.Common.{arith, ◌≡◌, ◌≢◌, ◌<◌, ◌≤◌, ◌+◌, ◌-◌, ◌==◌, ◌∙◌, ℕ, List, Option, Some, None, All, ap, sym, ⊎_elim, length, take, drop, get_or, length-take-le, length-drop}
use Rattle.std.specs.List.{position_or_len}
use Rattle.std.proofs.lemmas.Bool.{cases_lt, eq-eqb, false≢true}
use Rattle.std.proofs.lemmas.List.{get_or-drop, get_or-take, get_or_default, take_rest}
use Rattle.std.proofs.lemmas.Simd.{run_in_chunk_fails}
use Rattle.memchr.specs.Find.{IsFirstByte, is_byte}

-- none of the first bytes is an LF
abbrev pub NoLineFeed : ℕ → List ℕ → Type 0
NoLineFeed n bytes = (k : ℕ) → k < n → get_or bytes k 0 ≢ 10

pub none_in_front : (bytes : List ℕ) (n : ℕ) → n ≤ length bytes → NoLineFeed n bytes
    → All (λ b. b ≢ 10) (take n bytes)
none_in_front bytes n inside none = λ k d within is.
    let size = length-take-le n bytes inside in
    let early : k < n = omega (arith, within, size) in
    none k early
    (get_or_default bytes k 0 d (omega (arith, early, inside)) ∙ sym (get_or-take n bytes k d early)
    ∙ is)

-- up to the first LF of the 32 bytes from a place on
pub none_to_first : (bytes : List ℕ) (at place : ℕ) → at + 32 ≤ length bytes
    → place ≡ position_or_len (λ b. b == 10) (take 32 (take (length bytes - at) (drop at bytes)))
    → NoLineFeed at bytes → NoLineFeed (at + place) bytes
none_to_first bytes at place room is none =
    let counted = is ∙ ap (λ rest. position_or_len (λ b. b == 10) (take 32 rest))
    (take_rest bytes at) in
    let fails = run_in_chunk_fails (λ b. b == 10) bytes at 32 place 0 room counted in
    λ k early is.
    ⊎_elim (λ before. none k before is) (λ behind.
    absurd (false≢true (sym (fails k behind early) ∙ eq-eqb (get_or bytes k 0) 10 is)))
    (cases_lt k at)

abbrev pub front_of : ℕ → Option ℕ → ℕ
front_of len None = len
front_of len (Some more) = more

-- up to the first LF behind a place, or to the end
pub none_to_next : (bytes : List ℕ) (at : ℕ) (next : Option ℕ) → at ≤ length bytes
    → IsFirstByte (is_byte 10) (take (length bytes - at) (drop at bytes)) next
    → NoLineFeed at bytes → NoLineFeed (at + front_of (length bytes - at) next) bytes
none_to_next bytes at next inside first none = λ k early is.
    ⊎_elim (λ before. none k before is)
    (λ behind. go next first k early behind is) (cases_lt k at)
  where
    there : (k : ℕ) → at ≤ k → get_or bytes k 0 ≡ 10
        → get_or (take (length bytes - at) (drop at bytes)) (k - at) 0 ≡ 10
    there k behind is =
        let same : at + (k - at) ≡ k = omega arith in
        ap (λ rest. get_or rest (k - at) 0) (take_rest bytes at)
        ∙ get_or-drop at bytes (k - at) 0 ∙ ap (λ i. get_or bytes i 0) same ∙ is

    size : length (take (length bytes - at) (drop at bytes)) ≡ length bytes - at
    size = ap length (take_rest bytes at) ∙ length-drop at bytes

    go : (next : Option ℕ)
        → IsFirstByte (is_byte 10) (take (length bytes - at) (drop at bytes)) next
        → (k : ℕ) → k < at + front_of (length bytes - at) next → at ≤ k
        → get_or bytes k 0 ≡ 10 → ⊥
    go None nowhere k early behind is =
        nowhere (k - at) (omega arith) (omega (arith, early, behind, size))
        (eq-eqb _ 10 (there k behind is))
    go (Some more) found k early behind is =
        found.0.before (k - at) (omega arith) (omega (arith, early, behind))
        (eq-eqb _ 10 (there k behind is))
