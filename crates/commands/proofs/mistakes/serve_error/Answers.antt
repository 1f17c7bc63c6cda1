use Rattle.std.proofs.Common.{rules}
use Rattle.commands.proofs.mistakes.serve_error.Goals as goal

pub returns-in_err-serve_command : goal.returns-in_err-serve_command
returns-in_err-serve_command c = search rules

pub returns-in_err-bin_name : goal.returns-in_err-bin_name
returns-in_err-bin_name c = search rules

pub returns : goal.returns
returns c = search rules
