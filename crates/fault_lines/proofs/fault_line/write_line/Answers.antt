use Rattle.std.proofs.Common.{rules}
use Rattle.fault_lines.proofs.fault_line.write_line.Goals as goal

pub returns-clause-flushed : goal.returns-clause-flushed
returns-clause-flushed c = search rules

pub returns-clause-unfailing : goal.returns-clause-unfailing
returns-clause-unfailing c = search rules

pub returns-clause-failed : goal.returns-clause-failed
returns-clause-failed c = search rules

pub returns-in_err-write_pieces-clause-failed : goal.returns-in_err-write_pieces-clause-failed
returns-in_err-write_pieces-clause-failed c = search rules

pub returns-in_err-write_pieces-clause-all : goal.returns-in_err-write_pieces-clause-all
returns-in_err-write_pieces-clause-all g c = search rules

pub returns-in_err-write_pieces-clause-flushed : goal.returns-in_err-write_pieces-clause-flushed
returns-in_err-write_pieces-clause-flushed g c = search rules
