use Rattle.std.proofs.Common.{◌≡◌, true, rules}
use Rattle.std.specs.Char.{is_ascii_digit}
use Rattle.std.specs.List.{list_all}
use Rattle.lemmas.proofs.Digits.{digits_are_text}
use Rattle.script.proofs.numbers.read_number.Goals as goal

pub returns-in-Err : goal.returns-in-Err
returns-in-Err c =
    let digits : list_all is_ascii_digit c.args.word.now ≡ true = search rules in
    absurd (c.in-Err.ensures.cases.0 (digits_are_text c.args.word.now digits))

pub returns-then-word-gt20 : goal.returns-then-word-gt20
returns-then-word-gt20 c = search rules

pub returns-in-Ok : goal.returns-in-Ok
returns-in-Ok c = search rules
