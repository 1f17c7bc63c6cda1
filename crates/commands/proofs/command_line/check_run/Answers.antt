use Rattle.std.proofs.Common.{rules, ◌∙◌, sym, refl, codes}
use Rattle.clap.specs.Words.{found_of, rows_of}
use Rattle.clap.proofs.WalkLemmas.{first_value-rows}
use Rattle.commands.proofs.NoRun.{no_check}
use Rattle.commands.proofs.OptionValues.{no_path}
use Rattle.commands.proofs.command_line.check_run.Goals as goal

pub returns-in_err-path-clause-none : goal.returns-in_err-path-clause-none
returns-in_err-path-clause-none c none run is =
    let absent =
    sym (first_value-rows (found_of c.args.matches.now) (codes "config")) ∙ sym c.get_str.ensures
    ∙ search rules in
    no_check (rows_of (found_of c.args.matches.now)) run (λ path has some. no_path absent has) is

pub returns-in_err-exchanges-clause-none : goal.returns-in_err-exchanges-clause-none
returns-in_err-exchanges-clause-none c none run is =
    no_check (rows_of (found_of c.args.matches.now)) run
    (λ path has some. c.in_err-exchanges.ensures.none refl some) is

pub returns-clause-run : goal.returns-clause-run
returns-clause-run c = (
  refl,
  sym (first_value-rows (found_of c.args.matches.now) (codes "config")) ∙ sym c.get_str.ensures
      ∙ search rules,
  search rules,
  search rules,
)

pub returns-clause-none : goal.returns-clause-none
returns-clause-none c = search rules
