use Rattle.std.proofs.Common.{rules}
use Rattle.auto.proofs.Roots.{root_is, root_least, root_most}
use Rattle.auto.proofs.root.headroom_of.Goals as goal

pub returns-clause-value : goal.returns-clause-value
returns-clause-value c = search (rules, root_is)

pub returns-clause-least : goal.returns-clause-least
returns-clause-least c = search (rules, root_least)

pub returns-clause-most : goal.returns-clause-most
returns-clause-most c = search (rules, root_most)
