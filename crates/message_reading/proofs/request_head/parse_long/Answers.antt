use Rattle.std.proofs.Common.{rules}
use Rattle.message_reading.proofs.request_head.parse_long.Goals as goal

pub returns-in_err-head_at-in-Some-clause-head : goal.returns-in_err-head_at-in-Some-clause-head
returns-in_err-head_at-in-Some-clause-head c = search rules

pub returns-in_err-head_at-in-Some-clause-malformed :
    goal.returns-in_err-head_at-in-Some-clause-malformed
returns-in_err-head_at-in-Some-clause-malformed c = search rules

pub returns-in_err-head_at-in-Some-clause-faults : goal.returns-in_err-head_at-in-Some-clause-faults
returns-in_err-head_at-in-Some-clause-faults c = search rules

pub returns-in_ok-head_at-in-Some-clause-head : goal.returns-in_ok-head_at-in-Some-clause-head
returns-in_ok-head_at-in-Some-clause-head c = search rules

pub returns-in_ok-head_at-in-Some-clause-malformed :
    goal.returns-in_ok-head_at-in-Some-clause-malformed
returns-in_ok-head_at-in-Some-clause-malformed c = search rules

pub returns-in_ok-head_at-in-Some-clause-faults : goal.returns-in_ok-head_at-in-Some-clause-faults
returns-in_ok-head_at-in-Some-clause-faults c = search rules

pub returns-in-None-clause-head : goal.returns-in-None-clause-head
returns-in-None-clause-head c = search rules

pub returns-in-None-clause-faults : goal.returns-in-None-clause-faults
returns-in-None-clause-faults c = search rules
