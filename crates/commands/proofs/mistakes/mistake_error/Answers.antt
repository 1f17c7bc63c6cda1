use Rattle.std.proofs.Common.{rules}
use Rattle.commands.proofs.mistakes.mistake_error.Goals as goal

pub returns-in_err-fault-in-Value : goal.returns-in_err-fault-in-Value
returns-in_err-fault-in-Value c = search rules

pub returns-in_err-command-in-NoCommand : goal.returns-in_err-command-in-NoCommand
returns-in_err-command-in-NoCommand c = search rules

pub returns-in_ok-fault-in-Value : goal.returns-in_ok-fault-in-Value
returns-in_ok-fault-in-Value c = search rules

pub returns-in-Both : goal.returns-in-Both
returns-in-Both c = search rules

pub returns-in_ok-command-in-NoCommand : goal.returns-in_ok-command-in-NoCommand
returns-in_ok-command-in-NoCommand c = search rules
