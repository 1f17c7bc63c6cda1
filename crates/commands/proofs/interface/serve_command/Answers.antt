use Rattle.std.specs.Prelude.{codes}
use Rattle.clap.specs.Words.{new_app, with_rule}
use Rattle.commands.specs.Rules.{config_rule}
use Rattle.commands.proofs.interface.serve_command.Goals as goal

-- the rows of the code are those of the table
pub returns : goal.returns
returns c =
    c.with_rows.ensures (with_rule (new_app (codes "serve")) config_rule)
    (c.configured-serve.ensures (new_app (codes "serve")) c.described_at_length-described.ensures)
