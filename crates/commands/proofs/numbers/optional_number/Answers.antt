use Rattle.std.proofs.Common.{rules, ◌∙◌, sym, refl}
use Rattle.clap.specs.Words.{found_of, rows_of}
use Rattle.clap.proofs.WalkLemmas.{first_value-rows}
use Rattle.commands.proofs.OptionValues.{no_optional}
use Rattle.commands.proofs.numbers.optional_number.Goals as goal

-- the text that is there is no number in the range
pub returns-in_err-number-in-Some-clause-none : goal.returns-in_err-number-in-Some-clause-none
returns-in_err-number-in-Some-clause-none c is =
    no_optional (rows_of (found_of c.args.matches.now)) c.args.id.now c.args.low c.args.high
    c.in-Some.field-0.now
    (sym (first_value-rows (found_of c.args.matches.now) c.args.id.now) ∙ sym c.get_str.ensures
    ∙ search rules)
    (c.in_err-number-in-Some.ensures.none refl)

pub returns-in-None-clause-value : goal.returns-in-None-clause-value
returns-in-None-clause-value c =
    sym (first_value-rows (found_of c.args.matches.now) c.args.id.now) ∙ sym c.get_str.ensures
    ∙ search rules
