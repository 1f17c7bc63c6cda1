use Rattle.std.proofs.Common.{rules, refl}
use Rattle.clap.specs.Words.{found_of, rows_of}
use Rattle.commands.proofs.NoRun.{no_load}
use Rattle.commands.proofs.command_line.load_run.Goals as goal

pub returns-in_err-limit-clause-none : goal.returns-in_err-limit-clause-none
returns-in_err-limit-clause-none c none run is =
    no_load (rows_of (found_of c.args.matches.now)) run
    (λ some with_workers. c.in_err-limit.ensures.none refl some) is

pub returns-in_err-workers-clause-none : goal.returns-in_err-workers-clause-none
returns-in_err-workers-clause-none c none run is =
    no_load (rows_of (found_of c.args.matches.now)) run
    (λ some with_workers. c.in_err-workers.ensures.none refl with_workers) is

pub returns-clause-run : goal.returns-clause-run
returns-clause-run c = search rules

pub returns-clause-none : goal.returns-clause-none
returns-clause-none c = search rules
