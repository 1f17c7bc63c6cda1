use Rattle.std.proofs.Common.{rules}
use Rattle.message_reading.proofs.head_bytes.read_head.Goals as goal

pub returns-in_err-read_wanted-clause-head : goal.returns-in_err-read_wanted-clause-head
returns-in_err-read_wanted-clause-head g c = search rules

pub returns-in_err-read_wanted-clause-lines : goal.returns-in_err-read_wanted-clause-lines
returns-in_err-read_wanted-clause-lines g c = search rules

pub returns-in_err-read_wanted-clause-parts : goal.returns-in_err-read_wanted-clause-parts
returns-in_err-read_wanted-clause-parts g c = search rules

pub returns-in_err-read_wanted-clause-within : goal.returns-in_err-read_wanted-clause-within
returns-in_err-read_wanted-clause-within g c = search rules

pub returns-in_err-read_wanted-clause-reads : goal.returns-in_err-read_wanted-clause-reads
returns-in_err-read_wanted-clause-reads g c = search rules

pub returns-in-Whole-clause-head : goal.returns-in-Whole-clause-head
returns-in-Whole-clause-head g c = search rules

pub returns-in-Whole-clause-lines : goal.returns-in-Whole-clause-lines
returns-in-Whole-clause-lines g c = search rules

pub returns-in-Whole-clause-parts : goal.returns-in-Whole-clause-parts
returns-in-Whole-clause-parts g c = search rules

pub returns-in-Whole-clause-within : goal.returns-in-Whole-clause-within
returns-in-Whole-clause-within g c = search rules

pub returns-in-Whole-clause-reads : goal.returns-in-Whole-clause-reads
returns-in-Whole-clause-reads g c = search rules

pub returns-in-Begun-clause-head : goal.returns-in-Begun-clause-head
returns-in-Begun-clause-head g c = search rules

pub returns-in-Begun-clause-lines : goal.returns-in-Begun-clause-lines
returns-in-Begun-clause-lines g c = search rules

pub returns-in-Begun-clause-parts : goal.returns-in-Begun-clause-parts
returns-in-Begun-clause-parts g c = search rules

pub returns-in-Begun-clause-within : goal.returns-in-Begun-clause-within
returns-in-Begun-clause-within g c = search rules

pub returns-in-Begun-clause-reads : goal.returns-in-Begun-clause-reads
returns-in-Begun-clause-reads g c = search rules
