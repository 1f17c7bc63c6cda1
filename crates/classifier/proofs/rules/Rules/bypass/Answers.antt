use Rattle.std.proofs.Common.{rules}
use Rattle.classifier.proofs.rules.Rules.bypass.Goals as goal

pub returns : goal.returns
returns c = search rules
