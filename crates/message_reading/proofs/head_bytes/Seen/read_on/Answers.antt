use Rattle.std.proofs.Common.{rules}
use Rattle.message_reading.proofs.head_bytes.Seen.read_on.Goals as goal

pub returns-in_err-read_wanted-clause-gave : goal.returns-in_err-read_wanted-clause-gave
returns-in_err-read_wanted-clause-gave g c = search rules

pub returns-in_err-read_wanted-clause-faults : goal.returns-in_err-read_wanted-clause-faults
returns-in_err-read_wanted-clause-faults g c = search rules

pub returns-in_err-read_wanted-clause-early : goal.returns-in_err-read_wanted-clause-early
returns-in_err-read_wanted-clause-early g c = search rules

pub returns-in_err-read_wanted-clause-within : goal.returns-in_err-read_wanted-clause-within
returns-in_err-read_wanted-clause-within g c = search rules

pub returns-in_err-read_wanted-clause-reads : goal.returns-in_err-read_wanted-clause-reads
returns-in_err-read_wanted-clause-reads g c = search rules

pub returns-clause-gave : goal.returns-clause-gave
returns-clause-gave g c = search rules

pub returns-clause-faults : goal.returns-clause-faults
returns-clause-faults g c = search rules

pub returns-clause-early : goal.returns-clause-early
returns-clause-early g c = search rules

pub returns-clause-within : goal.returns-clause-within
returns-clause-within g c = search rules

pub returns-clause-reads : goal.returns-clause-reads
returns-clause-reads g c = search rules
