use Rattle.std.proofs.Common.{rules, ◌∙◌, sym}
use Rattle.clap.specs.Words.{found_of, rows_of}
use Rattle.clap.proofs.WalkLemmas.{first_value-rows}
use Rattle.commands.proofs.OptionValues.{set_by, unset_by}
use Rattle.commands.proofs.command_line.is_set.Goals as goal

pub returns-in-Some : goal.returns-in-Some
returns-in-Some c =
    set_by (rows_of (found_of c.args.matches.now)) c.args.id.now c.in-Some.text.now c.eq.result
    (sym (first_value-rows (found_of c.args.matches.now) c.args.id.now) ∙ sym c.get_str.ensures
    ∙ search rules)
    (search rules)

pub returns-in-None : goal.returns-in-None
returns-in-None c =
    unset_by (rows_of (found_of c.args.matches.now)) c.args.id.now
    (sym (first_value-rows (found_of c.args.matches.now) c.args.id.now) ∙ sym c.get_str.ensures
    ∙ search rules)
