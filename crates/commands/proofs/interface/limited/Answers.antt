use Rattle.clap.specs.Words.{new_app, with_rule}
use Rattle.commands.specs.Rules.{explain_rule, limit_rule}
use Rattle.commands.proofs.interface.limited.Goals as goal

-- the arguments are added one by one
pub returns : goal.returns
returns c =
    c.with_argument.ensures (with_rule (new_app c.args.name.now) limit_rule) explain_rule
    c.limited_alone-limited.ensures c.explain_flag.ensures.rule c.explain_flag.ensures.local
