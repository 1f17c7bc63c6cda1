use Rattle.std.proofs.Common.{rules}
use Rattle.limiter_core.proofs.state.State.promote_some.Goals as goal

pub returns-in-Newest-clause-promoted : goal.returns-in-Newest-clause-promoted
returns-in-Newest-clause-promoted g c = search rules

pub returns-in-Newest-clause-stands : goal.returns-in-Newest-clause-stands
returns-in-Newest-clause-stands g c = search rules

pub returns-in-Newest-clause-held : goal.returns-in-Newest-clause-held
returns-in-Newest-clause-held g c = search rules

pub returns-in-Newest-clause-kept : goal.returns-in-Newest-clause-kept
returns-in-Newest-clause-kept g c = search rules

pub returns-in-Newest-clause-few : goal.returns-in-Newest-clause-few
returns-in-Newest-clause-few g c = search rules

pub returns-in-Newest-clause-capacity : goal.returns-in-Newest-clause-capacity
returns-in-Newest-clause-capacity g c = search rules

pub returns-in-All-clause-promoted : goal.returns-in-All-clause-promoted
returns-in-All-clause-promoted g c = search rules

pub returns-in-All-clause-stands : goal.returns-in-All-clause-stands
returns-in-All-clause-stands g c = search rules

pub returns-in-All-clause-held : goal.returns-in-All-clause-held
returns-in-All-clause-held g c = search rules

pub returns-in-All-clause-kept : goal.returns-in-All-clause-kept
returns-in-All-clause-kept g c = search rules

pub returns-in-All-clause-few : goal.returns-in-All-clause-few
returns-in-All-clause-few g c = search rules

pub returns-in-All-clause-capacity : goal.returns-in-All-clause-capacity
returns-in-All-clause-capacity g c = search rules
