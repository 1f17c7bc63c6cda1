use Rattle.std.proofs.Common.{rules}
use Rattle.serve_reports.proofs.counters_line.write_counters.Goals as goal

pub returns-clause-all : goal.returns-clause-all
returns-clause-all c = search rules

pub returns-clause-unfailing : goal.returns-clause-unfailing
returns-clause-unfailing c = search rules

pub returns-clause-flushed : goal.returns-clause-flushed
returns-clause-flushed c = search rules

pub returns-clause-failed : goal.returns-clause-failed
returns-clause-failed c = search rules
