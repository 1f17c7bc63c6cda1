use Rattle.std.proofs.Common.{rules}
use Rattle.message_reading.proofs.final_head.read_final_head.Goals as goal

pub loop-head-init : goal.loop-head-init
loop-head-init g c = search rules

pub returns-in_err-head-clause-status : goal.returns-in_err-head-clause-status
returns-in_err-head-clause-status g c = search rules

pub returns-in_err-head-clause-within : goal.returns-in_err-head-clause-within
returns-in_err-head-clause-within g c = search rules

pub returns-in_err-head-clause-reads : goal.returns-in_err-head-clause-reads
returns-in_err-head-clause-reads g c = search rules

pub returns-then-is_final-clause-status : goal.returns-then-is_final-clause-status
returns-then-is_final-clause-status g c = search rules

pub returns-then-is_final-clause-within : goal.returns-then-is_final-clause-within
returns-then-is_final-clause-within g c = search rules

pub returns-then-is_final-clause-reads : goal.returns-then-is_final-clause-reads
returns-then-is_final-clause-reads g c = search rules

pub returns-then-left-eq0-clause-status : goal.returns-then-left-eq0-clause-status
returns-then-left-eq0-clause-status g c = search rules

pub returns-then-left-eq0-clause-within : goal.returns-then-left-eq0-clause-within
returns-then-left-eq0-clause-within g c = search rules

pub returns-then-left-eq0-clause-reads : goal.returns-then-left-eq0-clause-reads
returns-then-left-eq0-clause-reads g c = search rules

pub loop-head-smaller : goal.loop-head-smaller
loop-head-smaller g c = search rules
