use Rattle.std.proofs.Common.{rules}
use Rattle.limiter_core.proofs.limiter.take_rooms.Goals as goal

pub returns-in_err-backlog-clause-backlog : goal.returns-in_err-backlog-clause-backlog
returns-in_err-backlog-clause-backlog c = search rules

pub returns-in_err-backlog-clause-granted : goal.returns-in_err-backlog-clause-granted
returns-in_err-backlog-clause-granted c = search rules

pub returns-in_err-backlog-clause-promoted : goal.returns-in_err-backlog-clause-promoted
returns-in_err-backlog-clause-promoted c = search rules

pub returns-in_err-backlog-clause-reserved : goal.returns-in_err-backlog-clause-reserved
returns-in_err-backlog-clause-reserved c = search rules

pub returns-in_err-backlog-clause-room : goal.returns-in_err-backlog-clause-room
returns-in_err-backlog-clause-room c = search rules

pub returns-in_err-granted-clause-backlog : goal.returns-in_err-granted-clause-backlog
returns-in_err-granted-clause-backlog c = search rules

pub returns-in_err-granted-clause-granted : goal.returns-in_err-granted-clause-granted
returns-in_err-granted-clause-granted c = search rules

pub returns-in_err-granted-clause-promoted : goal.returns-in_err-granted-clause-promoted
returns-in_err-granted-clause-promoted c = search rules

pub returns-in_err-granted-clause-reserved : goal.returns-in_err-granted-clause-reserved
returns-in_err-granted-clause-reserved c = search rules

pub returns-in_err-granted-clause-room : goal.returns-in_err-granted-clause-room
returns-in_err-granted-clause-room c = search rules

pub returns-in_err-promoted-clause-backlog : goal.returns-in_err-promoted-clause-backlog
returns-in_err-promoted-clause-backlog c = search rules

pub returns-in_err-promoted-clause-granted : goal.returns-in_err-promoted-clause-granted
returns-in_err-promoted-clause-granted c = search rules

pub returns-in_err-promoted-clause-promoted : goal.returns-in_err-promoted-clause-promoted
returns-in_err-promoted-clause-promoted c = search rules

pub returns-in_err-promoted-clause-reserved : goal.returns-in_err-promoted-clause-reserved
returns-in_err-promoted-clause-reserved c = search rules

pub returns-in_err-promoted-clause-room : goal.returns-in_err-promoted-clause-room
returns-in_err-promoted-clause-room c = search rules

pub returns-clause-backlog : goal.returns-clause-backlog
returns-clause-backlog c = search rules

pub returns-clause-granted : goal.returns-clause-granted
returns-clause-granted c = search rules

pub returns-clause-promoted : goal.returns-clause-promoted
returns-clause-promoted c = search rules

pub returns-clause-reserved : goal.returns-clause-reserved
returns-clause-reserved c = search rules

pub returns-clause-room : goal.returns-clause-room
returns-clause-room c = search rules
