use Rattle.std.proofs.Common.{rules, arith}
use Rattle.message_fields.proofs.Short.{short_target}
use Rattle.message_fields.proofs.target.is_absolute.Goals as goal

pub returns-else-target-ge7-clause-value : goal.returns-else-target-ge7-clause-value
returns-else-target-ge7-clause-value c =
    let short = short_target c.args.target.now (omega arith) in rw short (search rules)
