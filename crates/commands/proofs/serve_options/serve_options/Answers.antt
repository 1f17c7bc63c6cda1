use Rattle.std.proofs.Common.{rules, ◌∙◌, sym, codes}
use Rattle.clap.specs.Words.{found_of}
use Rattle.clap.proofs.WalkLemmas.{first_value-rows}
use Rattle.commands.proofs.OptionValues.{no_path}
use Rattle.commands.proofs.serve_options.serve_options.Goals as goal

pub returns-in_err-path-clause-none : goal.returns-in_err-path-clause-none
returns-in_err-path-clause-none c none given =
    let none =
    sym (first_value-rows (found_of c.args.matches.now) (codes "config")) ∙ sym c.get_str.ensures
    ∙ search rules in
    no_path none given.path_is

pub returns-clause-value : goal.returns-clause-value
returns-clause-value c = record {
  path = sym (first_value-rows (found_of c.args.matches.now) (codes "config"))
      ∙ sym c.get_str.ensures ∙ search rules;
  values = search rules;
  once = search rules;
}
