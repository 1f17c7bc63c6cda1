use Rattle.std.proofs.Common.{rules, refl}
use Rattle.clap.specs.Words.{found_of, rows_of}
use Rattle.commands.proofs.NoRun.{no_replay}
use Rattle.commands.proofs.command_line.replay_run.Goals as goal

pub returns-in_err-limit-clause-none : goal.returns-in_err-limit-clause-none
returns-in_err-limit-clause-none c none run is =
    no_replay (rows_of (found_of c.args.matches.now)) run (c.in_err-limit.ensures.none refl) is

pub returns-clause-run : goal.returns-clause-run
returns-clause-run c = search rules

pub returns-clause-none : goal.returns-clause-none
returns-clause-none c = search rules
