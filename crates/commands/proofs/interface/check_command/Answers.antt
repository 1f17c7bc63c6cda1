use Rattle.std.specs.Prelude.{codes}
use Rattle.clap.specs.Words.{new_app, with_rule}
use Rattle.commands.specs.Rules.{config_rule, exchanges_rule, explain_rule}
use Rattle.commands.proofs.interface.check_command.Goals as goal

-- the arguments are added one by one
pub returns : goal.returns
returns c =
    let explained =
    c.with_argument-check.ensures (with_rule (new_app (codes "check")) config_rule) explain_rule
    (c.configured-check.ensures (new_app (codes "check")) c.described.ensures)
    c.explain_flag.ensures.rule c.explain_flag.ensures.local in
    c.with_argument.ensures
    (with_rule (with_rule (new_app (codes "check")) config_rule) explain_rule) exchanges_rule
    explained c.argument.ensures.rule c.argument.ensures.local
