use Rattle.std.proofs.Common.{rules}
use Rattle.load_driver.proofs.text.part_about.Goals as goal

pub returns-in-Acquire : goal.returns-in-Acquire
returns-in-Acquire c = search rules
