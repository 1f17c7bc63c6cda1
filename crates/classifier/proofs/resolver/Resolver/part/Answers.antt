use Rattle.std.proofs.Common.{rules}
use Rattle.classifier.proofs.resolver.Resolver.part.Goals as goal

pub returns-in-Err : goal.returns-in-Err
returns-in-Err c = search rules
