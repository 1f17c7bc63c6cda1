use Rattle.vegas.proofs.Least.{queue_is_least}
use Rattle.vegas.proofs.laws.estimates_the_least_queue.Goals as goal

pub returns : goal.returns
returns c = queue_is_least
