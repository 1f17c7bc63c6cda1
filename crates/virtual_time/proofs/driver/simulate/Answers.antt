use Rattle.std.proofs.Common.{rules}
use Rattle.virtual_time.proofs.driver.simulate.Goals as goal

pub returns-in-None-clause-ok : goal.returns-in-None-clause-ok
returns-in-None-clause-ok g c = search rules

pub returns-in-None-clause-flushed : goal.returns-in-None-clause-flushed
returns-in-None-clause-flushed g c = search rules

pub returns-clause-line : goal.returns-clause-line
returns-clause-line g c = search rules

pub returns-clause-flushed : goal.returns-clause-flushed
returns-clause-flushed g c = search rules

pub returns-in_err-text-clause-memory : goal.returns-in_err-text-clause-memory
returns-in_err-text-clause-memory g c = search rules

pub returns-in_err-text-clause-read : goal.returns-in_err-text-clause-read
returns-in_err-text-clause-read g c = search rules

pub returns-in_err-text-clause-too_large : goal.returns-in_err-text-clause-too_large
returns-in_err-text-clause-too_large g c = search rules

pub returns-clause-ok : goal.returns-clause-ok
returns-clause-ok g c = search rules

pub run_trace-requires-clause-short : goal.run_trace-requires-clause-short
run_trace-requires-clause-short g c = search rules

pub returns-in_err-told-clause-memory : goal.returns-in_err-told-clause-memory
returns-in_err-told-clause-memory g c = search rules
