-- The numbers of one's own calls in what is known of a log.
use Rattle.std.proofs.Common.{◌≡◌, ◌≤◌, ℕ, [], ◌∷◌, ◌++◌, ◌==◌, List, cond, refl, sym, ap, ◌∙◌, arith}
use Rattle.std.proofs.Common.{append_assoc, eq-eqb}
use Rattle.std.proofs.lemmas.List.{append_cancel_right}
use Rattle.std.proofs.lemmas.List.Sums.{sum_by-append, sum_by-cons}
use Rattle.limiter_core.specs.declared.event.Event.{Event}
use Rattle.limiter_core.specs.declared.event.Reply.{Reply}
use Rattle.gate_port.specs.Log.{IsLogged, Known, WentOn}
use Rattle.gate_word.specs.Rule.{times}

-- some calls came since these
abbrev pub Since : List ℕ → Known → Type 0
Since base known = (some : List ℕ) × (known.own ≡ some ++ base)

-- and since these the own ones, of which some are known
abbrev pub Within : List ℕ → List ℕ → Known → Type 0
Within own base known = (later : List ℕ) × (own ++ base ≡ later ++ known.own)

abbrev is_at : ℕ → ℕ → ℕ
is_at n m = cond (m == n) 1 0

stands_there : (n : ℕ) (xs ys : List ℕ) → 1 ≤ times n (xs ++ n ∷ ys)
stands_there n xs ys =
    omega (
      arith,
      sum_by-append (is_at n) xs (n ∷ ys),
      sum_by-cons (is_at n) n ys,
      ap (λ b. cond {A = ℕ} b 1 0) (eq-eqb n n refl),
    )

module _ (base : List ℕ) (old new : Known) where
  pub since_went_on : WentOn old new → Since base old → Since base new
  since_went_on went since = (since.0, went.1 ∙ since.1)

  module _ (number : ℕ) (e : Event) (r : Reply) (is : IsLogged old new number e r) where
    pub since_logged : Since base old → Since base new
    since_logged since =
        (number ∷ since.0, is.own ∙ ap (λ (xs : List ℕ). number ∷ xs) since.1)

    pub within_logged : (own : List ℕ) → Within own base new → Within own base old
    within_logged own within = (
      within.0 ++ number ∷ [],
      within.1 ∙ ap (λ (xs : List ℕ). within.0 ++ xs) is.own
          ∙ sym (append_assoc within.0 (number ∷ []) old.own),
    )

    -- so its number is one of the own ones
    pub is_own : (own : List ℕ) → Since base old → Within own base new → 1 ≤ times number own
    is_own own since within =
        let all : own ++ base ≡ (within.0 ++ number ∷ since.0) ++ base =
        within.1 ∙ ap (λ (xs : List ℕ). within.0 ++ xs)
        (is.own ∙ ap (λ (xs : List ℕ). number ∷ xs) since.1)
        ∙ sym (append_assoc within.0 (number ∷ since.0) base) in
        let these : own ≡ within.0 ++ number ∷ since.0 = append_cancel_right own _ base all in
        omega (arith, stands_there number within.0 since.0, ap (times number) these)

  pub within_went_on : (own : List ℕ) → WentOn old new → Within own base new → Within own base old
  within_went_on own went within =
      (within.0, within.1 ∙ ap (λ (xs : List ℕ). within.0 ++ xs) went.1)
