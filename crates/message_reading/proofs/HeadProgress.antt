-- What is kept beside the bytes of a head, a byte further.
use Rattle.std.proofs.Common.{rules, arith, ◌≡◌, ◌≢◌, ◌≤◌, ◌+◌, ne_eqb, ◌∙◌, ◌++◌, ◌==◌, ◌&&◌, sym, ap, ap₂, refl, ℕ, Bool, true, false, not, cond, List, [], ◌∷◌}
use Rattle.std.specs.Prelude.{if◌then◌else◌, count_by}
use Rattle.std.proofs.lemmas.List.{length-append}
use Rattle.std.proofs.lemmas.List.Sums.{sum_by-append}
use Rattle.message_reading.specs.declared.progress.Progress.{Progress}
use Rattle.message_reading.specs.HeadBytes.{ended_by, stays_blank, is_blank, after_blank, line_ends, ends_head}
use Rattle.message_reading.specs.Progress.{IsProgress}
use Rattle.message_reading.specs.ChunkLines.{ends_line, ends_in_empty, is_empty_end, last_three}

pub three_more : (three : ℕ × ℕ × ℕ) (b : ℕ) (text : List ℕ)
    → last_three three (text ++ b ∷ [])
    ≡ ((last_three three text).1, (last_three three text).2, b)
three_more three b [] = refl
three_more three b (x ∷ text) = three_more (three.1, three.2, x) b text

pub ends_line_more : (b : ℕ) (text : List ℕ) → ends_line (text ++ b ∷ []) ≡ (b == 10)
unfolding ends_line
ends_line_more b text = ap (λ (t : ℕ × ℕ × ℕ). t.2 == 10) (three_more (0, 0, 0) b text)

pub empty_more : (before last b : ℕ) (seen : List ℕ) → (last_three (0, 0, 10) seen).1 ≡ before
    → (last_three (0, 0, 10) seen).2 ≡ last
    → ends_in_empty (seen ++ b ∷ []) ≡ is_empty_end (before, last, b)
unfolding ends_in_empty
empty_more before last b seen one two =
    ap is_empty_end (three_more (0, 0, 10) b seen) ∙ rw (one, two) refl

pub blank_more : (three : ℕ × ℕ × ℕ) (b : ℕ) (text : List ℕ)
    → is_blank three.2 (text ++ b ∷ [])
    ≡ (is_blank three.2 text && stays_blank (last_three three text).2 b)
blank_more three b [] = search rules
blank_more three b (x ∷ text) =
    let more = blank_more (three.1, three.2, x) b text in
    elim (stays_blank three.2 x) as (λ t. (t && is_blank x (text ++ b ∷ []))
    ≡ ((t && is_blank x text) && stays_blank (last_three (three.1, three.2, x) text).2 b)) [
      | true ↦ more
      | false ↦ refl
    ]

abbrev ends_of : List ℕ → ℕ
ends_of = count_by (λ b. b == 10)

one_end : (b : ℕ) → ends_of (b ∷ []) ≡ ended_by false b
one_end b =
    elim (b == 10) as (λ e. 0 + cond e 1 0 ≡ (if e && not false then 1 else 0))
    [ true ↦ refl | false ↦ refl ]

no_end : (b : ℕ) → ends_of [] ≡ 0 + ended_by true b
no_end b =
    elim (b == 10) as (λ e. ends_of [] ≡ 0 + (if e && not true then 1 else 0))
    [ true ↦ refl | false ↦ refl ]

first_end : (b : ℕ) → ends_of (b ∷ []) ≡ 0 + ended_by false b
first_end b =
    elim (b == 10) as (λ e. 0 + cond e 1 0 ≡ 0 + (if e && not false then 1 else 0))
    [ true ↦ refl | false ↦ refl ]

few_ends : (t : Bool) (b : ℕ) → ended_by t b ≤ 1
few_ends t b =
    elim ((b == 10) && not t) as (λ e. (if e then 1 else 0) ≤ 1)
    [ true ↦ search rules | false ↦ search rules ]

pub ends_more : (last b : ℕ) (text : List ℕ)
    → ends_of (after_blank last (text ++ b ∷ []))
    ≡ ends_of (after_blank last text) + ended_by (is_blank last (text ++ b ∷ [])) b
ends_more last b [] =
    elim (stays_blank last b) as (λ t. ends_of (if t then [] else b ∷ [])
    ≡ 0 + ended_by (t && true) b) [ true ↦ no_end b | false ↦ first_end b ]
ends_more last b (x ∷ text) =
    let more = ends_more x b text in
    elim (stays_blank last x)
    as (λ t. ends_of (if t then after_blank x (text ++ b ∷ []) else x ∷ (text ++ b ∷ []))
    ≡ ends_of (if t then after_blank x text else x ∷ text)
    + ended_by (t && is_blank x (text ++ b ∷ [])) b) [
      | true ↦ more
      | false ↦ sum_by-append (λ b. cond (b == 10) 1 0) (x ∷ text) (b ∷ [])
          ∙ ap (λ n. ends_of (x ∷ text) + n) (one_end b)
    ]

pub progress_none : IsProgress []
    (record { blank = true; third = 0; second = 0; last = 10; lines = 0 })
unfolding line_ends
progress_none = record {
  blank_is = refl;
  third_is = refl;
  second_is = refl;
  last_is = refl;
  lines_is = refl;
  lines_fit = search rules;
}

-- a byte further
pub progress_more : (text : List ℕ) (p q : Progress) (b : ℕ) → IsProgress text p
    → q.blank ≡ (p.blank && stays_blank p.last b) → q.third ≡ p.second → q.second ≡ p.last
    → q.last ≡ b → q.lines ≡ p.lines + ended_by q.blank b → IsProgress (text ++ b ∷ []) q
unfolding line_ends
progress_more text p q b is blank third second last lines =
    let blank_is : q.blank ≡ is_blank 10 (text ++ b ∷ []) =
    blank ∙ ap₂ (λ t l. t && stays_blank l b) is.blank_is is.last_is
    ∙ sym (blank_more (0, 0, 10) b text) in
    let three = three_more (0, 0, 10) b text in
    let longer = length-append text (b ∷ []) in
    let few = few_ends q.blank b in
    let fit = is.lines_fit in
    record {
      blank_is = blank_is;
      third_is = third ∙ is.second_is ∙ sym (ap (λ (t : ℕ × ℕ × ℕ). t.0) three);
      second_is = second ∙ is.last_is ∙ sym (ap (λ (t : ℕ × ℕ × ℕ). t.1) three);
      last_is = last ∙ sym (ap (λ (t : ℕ × ℕ × ℕ). t.2) three);
      lines_is = lines ∙ ap₂ (λ n t. n + ended_by t b) is.lines_is blank_is
          ∙ sym (ends_more 10 b text);
      lines_fit = omega (arith, lines);
    }

-- the bytes are a head, or more
pub head_ends : (text : List ℕ) (p : Progress) → IsProgress text p
    → (not p.blank && is_empty_end (p.third, p.second, p.last)) ≡ ends_head text
unfolding ends_head ends_in_empty
head_ends text p is = rw (is.blank_is, is.third_is, is.second_is, is.last_is) refl

-- a head ends in LF
pub head_ends_in_lf : (text : List ℕ) (b : ℕ) → b ≢ 10 → ends_head (text ++ b ∷ []) ≡ false
unfolding ends_head ends_in_empty is_empty_end
head_ends_in_lf text b other =
    let three = three_more (0, 0, 10) b text in
    let last : (b == 10) ≡ false = ne_eqb b 10 other in
    let none : ends_in_empty (text ++ b ∷ []) ≡ false =
    ap is_empty_end three ∙ rw last refl in
    rw none (elim (not (is_blank 10 (text ++ b ∷ []))) as (λ t. (t && false) ≡ false)
    [ true ↦ refl | false ↦ refl ])
