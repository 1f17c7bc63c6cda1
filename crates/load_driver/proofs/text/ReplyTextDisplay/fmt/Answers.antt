use Rattle.std.proofs.Common.{arith, rules}
use Rattle.std.proofs.lemmas.Grind.{common_steps}
use Rattle.load_driver.proofs.text.ReplyTextDisplay.fmt.Goals as goal

pub returns-in-Admitted-clause-writes : goal.returns-in-Admitted-clause-writes
returns-in-Admitted-clause-writes g c = search rules

pub returns-in-Admitted-clause-styled : goal.returns-in-Admitted-clause-styled
returns-in-Admitted-clause-styled g c = search rules

pub returns-in-Bypassed-clause-writes : goal.returns-in-Bypassed-clause-writes
returns-in-Bypassed-clause-writes g c = search rules

pub returns-in-Bypassed-clause-styled : goal.returns-in-Bypassed-clause-styled
returns-in-Bypassed-clause-styled g c = search rules

pub returns-in-Ended-clause-writes : goal.returns-in-Ended-clause-writes
returns-in-Ended-clause-writes g c = search rules

pub returns-in-Ended-clause-styled : goal.returns-in-Ended-clause-styled
returns-in-Ended-clause-styled g c = search rules

pub returns-in-Granted-clause-writes : goal.returns-in-Granted-clause-writes
returns-in-Granted-clause-writes g c = search rules

pub returns-in-Granted-clause-styled : goal.returns-in-Granted-clause-styled
returns-in-Granted-clause-styled g c = search rules

pub returns-in_ok-write-in-Seen-clause-writes : goal.returns-in_ok-write-in-Seen-clause-writes
returns-in_ok-write-in-Seen-clause-writes g c = grind (arith, common_steps)

pub returns-in_ok-write-in-Seen-clause-styled : goal.returns-in_ok-write-in-Seen-clause-styled
returns-in_ok-write-in-Seen-clause-styled g c = search rules
