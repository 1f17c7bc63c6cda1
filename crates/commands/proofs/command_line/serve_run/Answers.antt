use Rattle.std.proofs.Common.{rules, refl}
use Rattle.clap.specs.Words.{found_of, rows_of}
use Rattle.commands.proofs.NoRun.{no_serve}
use Rattle.commands.proofs.OptionValues.{given}
use Rattle.commands.proofs.command_line.serve_run.Goals as goal

pub returns-in_err-options-clause-none : goal.returns-in_err-options-clause-none
returns-in_err-options-clause-none c none run is =
    let rows = rows_of (found_of c.args.matches.now) in
    no_serve rows run (λ options are. c.in_err-options.ensures.none refl (given rows options are))
    is

pub returns-clause-run : goal.returns-clause-run
returns-clause-run c = search rules

pub returns-clause-none : goal.returns-clause-none
returns-clause-none c = search rules
