use Rattle.std.proofs.Common.{rules}
use Rattle.load_driver.proofs.asked.read_asked.Goals as goal

pub returns-in-Some-Setting-clause-asked : goal.returns-in-Some-Setting-clause-asked
returns-in-Some-Setting-clause-asked g c = search rules
