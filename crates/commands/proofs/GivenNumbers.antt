-- Numbers that the words give, read by their texts.
use Rattle.std.proofs.Common.{rules, ◌≡◌, ◌<◌, ◌^◌, ◌∙◌, sym, refl, subst, ap, ℕ, List, Option, Some, None, Result, Ok, Err}
use Rattle.std.specs.Str.Parse.{IsNumeral, ParsesUnsigned, digits_value, without_leading_plus}
use Rattle.clap.specs.Words.{ReadsOne}

-- a number that was read is that of the text
pub read_number : {E : Type 0} (G : List ℕ → Result ℕ E → Type 0) (o p : Option (List ℕ))
    (r : Option ℕ) (n : ℕ) → o ≡ p → r ≡ Some n → (o ≡ None → r ≡ None)
    → ((t : List ℕ) → o ≡ Some t → ReadsOne G t r)
    → ((t : List ℕ) → G t (Ok n) → ParsesUnsigned {E = E} 32 10 t (Ok n))
    → (t : List ℕ) × (p ≡ Some t) × IsNumeral 10 (without_leading_plus t)
    × (digits_value 10 (without_leading_plus t) ≡ n)
read_number G None p r n e is none value parses = search rules
read_number G (Some t) p r n e is none value parses =
    let read = parses t (subst (λ q. ReadsOne G t q) is (value t refl)) in
    (t, sym e, read.0.0, sym read.1)

-- a text that is a number is read as that number
pub number_reads : {E : Type 0} (G : List ℕ → Result ℕ E → Type 0) (o p : Option (List ℕ))
    (r : Option ℕ) (n : ℕ) (t : List ℕ) → o ≡ p
    → ((u : List ℕ) → o ≡ Some u → ReadsOne G u r)
    → ((u : List ℕ) (x : Result ℕ E) → G u x → ParsesUnsigned {E = E} 32 10 u x)
    → p ≡ Some t → IsNumeral 10 (without_leading_plus t)
    → digits_value 10 (without_leading_plus t) ≡ n → n < 2 ^ 32
    → r ≡ Some n
number_reads G o p None n t same value parses is numeral equal fits =
    let read = value t (same ∙ is) in
    absurd (parses t (Err read.0) read.1 (numeral, subst (λ m. m < 2 ^ 32) (sym equal) fits))
number_reads G o p (Some m) n t same value parses is numeral equal fits =
    let read = parses t (Ok m) (value t (same ∙ is)) in
    ap Some (read.1 ∙ equal)
