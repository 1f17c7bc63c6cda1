use Rattle.std.proofs.Common.{rules}
use Rattle.std.specs.Prelude.{codes}
use Rattle.clap.specs.Words.{with_subcommand}
use Rattle.commands.specs.CommandLine.{asking, replay_app, simulate_app}
use Rattle.commands.proofs.interface.text_command.Goals as goal

-- the subcommands are added one by one
pub returns : goal.returns
returns c =
    c.with_leaf.ensures (with_subcommand (asking (codes "admission")) replay_app.top) simulate_app
    (c.with_leaf-whole.ensures (asking (codes "admission")) replay_app (search rules)
    c.replay_command.ensures)
    c.simulate_command.ensures
