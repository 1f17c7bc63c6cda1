use Rattle.clap.specs.Words.{with_subcommand}
use Rattle.commands.specs.CommandLine.{check_app, load_app, text_app}
use Rattle.commands.proofs.interface.offline_command.Goals as goal

-- the subcommands are added one by one
pub returns : goal.returns
returns c =
    c.with_leaf.ensures (with_subcommand text_app load_app.top) check_app
    (c.with_leaf-whole.ensures text_app load_app c.text_command.ensures c.load_command.ensures)
    c.check_command.ensures
