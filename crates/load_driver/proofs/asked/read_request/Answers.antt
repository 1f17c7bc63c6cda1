use Rattle.std.proofs.Common.{rules}
use Rattle.load_driver.proofs.asked.read_request.Goals as goal

pub returns-in_ok-read_part-in-Acquire-clause-asked :
    goal.returns-in_ok-read_part-in-Acquire-clause-asked
returns-in_ok-read_part-in-Acquire-clause-asked g c = search rules
