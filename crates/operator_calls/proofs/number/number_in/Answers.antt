use Rattle.std.proofs.Common.{◌≡◌, true, rules}
use Rattle.std.specs.Char.{is_ascii_digit}
use Rattle.std.specs.List.{list_all}
use Rattle.lemmas.proofs.Digits.{digits_are_text}
use Rattle.operator_calls.proofs.number.number_in.Goals as goal

pub returns-in_default : goal.returns-in_default
returns-in_default c =
    let digits : list_all is_ascii_digit c.args.text.now ≡ true = search rules in
    absurd (c.in_default.ensures.cases.0 (digits_are_text c.args.text.now digits))
