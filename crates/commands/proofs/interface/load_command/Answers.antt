use Rattle.std.specs.Prelude.{codes}
use Rattle.commands.specs.CommandLine.{limited_app}
use Rattle.commands.specs.Rules.{workers_rule}
use Rattle.commands.proofs.interface.load_command.Goals as goal

-- the arguments are added one by one
pub returns : goal.returns
returns c =
    c.with_argument.ensures (limited_app (codes "load")) workers_rule c.limited-load.ensures
    c.argument.ensures.rule c.argument.ensures.local
