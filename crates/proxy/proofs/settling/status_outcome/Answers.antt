use Rattle.std.proofs.Common.{rules}
use Rattle.proxy.proofs.settling.status_outcome.Goals as goal

pub returns-in-200-to-499 : goal.returns-in-200-to-499
returns-in-200-to-499 c = search rules

pub returns-in_default : goal.returns-in_default
returns-in_default c = search rules

pub returns-in_default-2 : goal.returns-in_default-2
returns-in_default-2 c = search rules

pub returns-in-0-to-199 : goal.returns-in-0-to-199
returns-in-0-to-199 c = search rules

pub returns-in-0-to-199-2 : goal.returns-in-0-to-199-2
returns-in-0-to-199-2 c = search rules

pub returns-in-0-to-199-3 : goal.returns-in-0-to-199-3
returns-in-0-to-199-3 c = search rules
