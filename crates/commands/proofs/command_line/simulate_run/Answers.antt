use Rattle.std.proofs.Common.{rules, refl}
use Rattle.clap.specs.Words.{found_of, rows_of}
use Rattle.commands.proofs.NoRun.{no_simulate}
use Rattle.commands.proofs.command_line.simulate_run.Goals as goal

pub returns-in_err-limit-clause-none : goal.returns-in_err-limit-clause-none
returns-in_err-limit-clause-none c none run is =
    no_simulate (rows_of (found_of c.args.matches.now)) run (c.in_err-limit.ensures.none refl) is

pub returns-clause-run : goal.returns-clause-run
returns-clause-run c = search rules

pub returns-clause-none : goal.returns-clause-none
returns-clause-none c = search rules
