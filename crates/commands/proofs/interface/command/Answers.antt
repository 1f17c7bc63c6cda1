use Rattle.commands.specs.CommandLine.{offline_app, serve_app}
use Rattle.commands.proofs.interface.command.Goals as goal

-- the subcommands are added one by one
pub returns : goal.returns
returns c =
    c.with_leaf.ensures offline_app serve_app c.offline_command.ensures c.serve_command.ensures
