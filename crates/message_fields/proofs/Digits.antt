-- Texts of decimal digits.
use Rattle.std.proofs.Common.{◌≡◌, ℕ, ◌+◌, ◌-◌, ◌*◌, ◌<◌, true, false, List, length, take, get_or, arith, refl, rules}
use Rattle.std.specs.Char.{digit_value, is_ascii_digit}
use Rattle.std.specs.List.{list_all}
use Rattle.std.specs.Prelude.{Err}
use Rattle.std.specs.Str.Parse.{digits_value}
use Rattle.std.proofs.lemmas.Bool.Decides.{nat_tests}
use Rattle.std.proofs.lemmas.Int.Digits.{digits_value_more}
use Rattle.std.proofs.lemmas.List.Folds.{list_all_at}
use Rattle.std.proofs.lemmas.Str.Parse.{digits_value-take-le}
use Rattle.message_fields.specs.declared.length.LengthFault.TheVariants as fault
use Rattle.message_fields.specs.Lengths.{is_digits, limited}

-- each byte of digits is one
pub digit_at : (text : List ℕ) (i : ℕ) → is_digits text ≡ true → i < length text
    → is_ascii_digit (get_or text i 0) ≡ true
digit_at text i digits inside =
    elim (is_ascii_digit (get_or text i 0)) as
    (λ b. is_ascii_digit (get_or text i 0) ≡ b → b ≡ true) [
      | true ↦ λ e. refl
      | false ↦ λ e.
          let none = list_all_at is_ascii_digit text i 0 inside e in
          let all : list_all is_ascii_digit text ≡ true = search rules in
          absurd (cc)
    ] refl

-- the value of digits, with the next one
pub one_digit_more : (text : List ℕ) (i size : ℕ) → is_digits text ≡ true → i < length text
    → size ≡ digits_value 10 (take i text)
    → size * 10 + (get_or text i 0 - 48) ≡ digits_value 10 (take (i + 1) text)
one_digit_more text i size digits inside value =
    let digit = digit_at text i digits inside in
    let worth : digit_value (get_or text i 0) ≡ get_or text i 0 - 48 = grind (arith, nat_tests) in
    omega (arith, worth, value, digits_value_more 10 text i inside)

-- where the first digits tell too much, all do
pub too_large : (most : ℕ) (text : List ℕ) (i : ℕ) → most < digits_value 10 (take i text)
    → Err fault.TooLarge ≡ limited most (digits_value 10 text)
too_large most text i much =
    let all = digits_value-take-le 10 text i (omega arith) in grind (arith, nat_tests)
