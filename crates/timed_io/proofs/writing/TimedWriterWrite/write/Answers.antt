use Rattle.std.proofs.Common.{rules}
use Rattle.timed_io.proofs.writing.TimedWriterWrite.write.Goals as goal

pub returns-clause-within : goal.returns-clause-within
returns-clause-within g c = search rules

pub returns-clause-late : goal.returns-clause-late
returns-clause-late g c = search rules

pub returns-clause-untouched : goal.returns-clause-untouched
returns-clause-untouched g c = search rules
