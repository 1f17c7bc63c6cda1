use Rattle.std.proofs.Common.{rules}
use Rattle.message_reading.proofs.head_bytes.Seen.into_head.Goals as goal

pub returns-clause-head : goal.returns-clause-head
returns-clause-head c = search rules

pub returns-clause-lines : goal.returns-clause-lines
returns-clause-lines c = search rules

pub returns-clause-fault : goal.returns-clause-fault
returns-clause-fault c = search rules

pub returns-clause-too_large : goal.returns-clause-too_large
returns-clause-too_large c = search rules
