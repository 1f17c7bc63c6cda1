use Rattle.std.proofs.Common.{rules}
use Rattle.proxy.proofs.settling.outcome.Goals as goal

pub returns-in-Answered : goal.returns-in-Answered
returns-in-Answered c = search rules

pub returns-in-NotConnected : goal.returns-in-NotConnected
returns-in-NotConnected c = search rules

pub returns-in-Broken : goal.returns-in-Broken
returns-in-Broken c = search rules

pub returns-in-Memory : goal.returns-in-Memory
returns-in-Memory c = search rules

pub returns-in-Late : goal.returns-in-Late
returns-in-Late c = search rules

pub returns-in-Bodies : goal.returns-in-Bodies
returns-in-Bodies c = search rules
