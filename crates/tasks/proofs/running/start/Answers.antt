use Rattle.std.proofs.Common.{rules}
use Rattle.tasks.proofs.Orders.{reversed_twice}
use Rattle.tasks.proofs.running.start.Goals as goal

pub returns-clause-promised : goal.returns-clause-promised
returns-clause-promised g c = search (rules, reversed_twice)
