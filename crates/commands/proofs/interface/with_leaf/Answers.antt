use Rattle.std.proofs.Common.{rules}
use Rattle.commands.proofs.interface.with_leaf.Goals as goal

pub returns-in_err-whole : goal.returns-in_err-whole
returns-in_err-whole c = search rules

pub returns : goal.returns
returns c = search rules
