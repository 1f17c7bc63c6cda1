use Rattle.std.proofs.Common.{rules}
use Rattle.load_driver.proofs.session.note.Goals as goal

pub returns-in-End-default : goal.returns-in-End-default
returns-in-End-default c = search rules

pub returns-in-GiveUp-Granted : goal.returns-in-GiveUp-Granted
returns-in-GiveUp-Granted c = search rules
