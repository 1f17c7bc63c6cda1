use Rattle.std.proofs.Common.{rules}
use Rattle.load_driver.proofs.driver.DriverFaultFromReadFault.from.Goals as goal

pub returns-in-TooLarge : goal.returns-in-TooLarge
returns-in-TooLarge c = search rules
