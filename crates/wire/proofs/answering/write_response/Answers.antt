use Rattle.std.proofs.Common.{rules}
use Rattle.wire.proofs.answering.write_response.Goals as goal

pub returns-clause-all : goal.returns-clause-all
returns-clause-all g c = search rules

pub returns-clause-unfailing : goal.returns-clause-unfailing
returns-clause-unfailing g c = search rules

pub returns-clause-flushed : goal.returns-clause-flushed
returns-clause-flushed g c = search rules

pub returns-clause-flushes : goal.returns-clause-flushes
returns-clause-flushes g c = search rules

pub returns-clause-failed : goal.returns-clause-failed
returns-clause-failed g c = search rules
