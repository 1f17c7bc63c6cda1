use Rattle.std.proofs.Common.{rules, map, string_bytes}
use Rattle.clap.specs.Words.{subcommand_of}
use Rattle.commands.specs.CommandLine.{admission_app}
use Rattle.commands.proofs.NoRun.{no_run_of_both, ranges_kept}
use Rattle.commands.proofs.command_line.parse_args.Goals as goal

pub returns-in-Ok-clause-run : goal.returns-in-Ok-clause-run
returns-in-Ok-clause-run c = search rules

pub returns-in-Ok-clause-faultless : goal.returns-in-Ok-clause-faultless
returns-in-Ok-clause-faultless c = search rules

pub returns-in-Ok-clause-ranges : goal.returns-in-Ok-clause-ranges
returns-in-Ok-clause-ranges c =
    ranges_kept (subcommand_of admission_app (map string_bytes c.args.list.now)) c.in-Ok.run'
    (search rules)

pub returns-in-Ok-clause-refused : goal.returns-in-Ok-clause-refused
returns-in-Ok-clause-refused c = search rules

pub returns-in_err-run-clause-refused : goal.returns-in_err-run-clause-refused
returns-in_err-run-clause-refused c = search rules

pub returns-in-Ok-clause-once : goal.returns-in-Ok-clause-once
returns-in-Ok-clause-once c both =
    let none =
    no_run_of_both (subcommand_of admission_app (map string_bytes c.args.list.now)) c.in-Ok.run'
    (search rules) both in
    absurd none
