use Rattle.std.proofs.Common.{rules}
use Rattle.classifier.proofs.bypass.Bypass.holds.Goals as goal

pub returns-in-Method : goal.returns-in-Method
returns-in-Method c = search rules

pub returns-in-Prefix : goal.returns-in-Prefix
returns-in-Prefix c = search rules

pub returns-in-HeaderEquals : goal.returns-in-HeaderEquals
returns-in-HeaderEquals c = search rules
