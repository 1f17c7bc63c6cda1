use Rattle.std.proofs.Common.{rules, ◌∙◌, sym, refl}
use Rattle.clap.specs.Words.{found_of, rows_of}
use Rattle.clap.proofs.WalkLemmas.{first_value-rows}
use Rattle.commands.proofs.OptionValues.{no_address}
use Rattle.commands.proofs.addresses.optional_address.Goals as goal

-- the text that is there is none of an address with a port
pub returns-in_err-address-in-Some-clause-none : goal.returns-in_err-address-in-Some-clause-none
returns-in_err-address-in-Some-clause-none c is =
    no_address (rows_of (found_of c.args.matches.now)) c.args.id.now c.in-Some.field-0.now
    (sym (first_value-rows (found_of c.args.matches.now) c.args.id.now) ∙ sym c.get_str.ensures
    ∙ search rules)
    (c.in_err-address-in-Some.ensures.none refl)

pub returns-in-None-clause-value : goal.returns-in-None-clause-value
returns-in-None-clause-value c =
    sym (first_value-rows (found_of c.args.matches.now) c.args.id.now) ∙ sym c.get_str.ensures
    ∙ search rules
