use Rattle.std.proofs.Common.{rules}
use Rattle.limit_kinds.proofs.kinds.BaseLimitLimit.on_sample.Goals as goal

pub returns-in-Fixed : goal.returns-in-Fixed
returns-in-Fixed c = search rules

pub returns-in-Settable : goal.returns-in-Settable
returns-in-Settable c = search rules

pub returns-in-Aimd : goal.returns-in-Aimd
returns-in-Aimd c = search rules

pub returns-in-Vegas : goal.returns-in-Vegas
returns-in-Vegas c = search rules

pub returns-in-Auto : goal.returns-in-Auto
returns-in-Auto c = search rules
