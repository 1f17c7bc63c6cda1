use Rattle.std.proofs.Common.{rules}
use Rattle.load_run.proofs.counting.is_of.Goals as goal

pub returns-in-Called : goal.returns-in-Called
returns-in-Called c = search rules

pub returns-in-Admitted-matches : goal.returns-in-Admitted-matches
returns-in-Admitted-matches c = search rules

pub returns-in_default-matches : goal.returns-in_default-matches
returns-in_default-matches c = search rules

pub returns-in-Bypassed-matches : goal.returns-in-Bypassed-matches
returns-in-Bypassed-matches c = search rules

pub returns-in_default-matches-2 : goal.returns-in_default-matches-2
returns-in_default-matches-2 c = search rules

pub returns-in-Full-matches : goal.returns-in-Full-matches
returns-in-Full-matches c = search rules

pub returns-in_default-matches-3 : goal.returns-in_default-matches-3
returns-in_default-matches-3 c = search rules

pub returns-in-BacklogFull-matches : goal.returns-in-BacklogFull-matches
returns-in-BacklogFull-matches c = search rules

pub returns-in_default-matches-4 : goal.returns-in_default-matches-4
returns-in_default-matches-4 c = search rules

pub returns-in-Waiting-matches : goal.returns-in-Waiting-matches
returns-in-Waiting-matches c = search rules

pub returns-in_default-matches-5 : goal.returns-in_default-matches-5
returns-in_default-matches-5 c = search rules

pub returns-in-Promoted : goal.returns-in-Promoted
returns-in-Promoted c = search rules

pub returns-in-TimedOut-matches : goal.returns-in-TimedOut-matches
returns-in-TimedOut-matches c = search rules

pub returns-in_default-matches-6 : goal.returns-in_default-matches-6
returns-in_default-matches-6 c = search rules

pub returns-in-Success : goal.returns-in-Success
returns-in-Success c = search rules

pub returns-in-Ignored : goal.returns-in-Ignored
returns-in-Ignored c = search rules

pub returns-in-Dropped : goal.returns-in-Dropped
returns-in-Dropped c = search rules
