use Rattle.std.proofs.Common.{rules}
use Rattle.message_reading.proofs.final_head.read_response_head.Goals as goal

pub returns-in_err-text-clause-digits : goal.returns-in_err-text-clause-digits
returns-in_err-text-clause-digits g c = search rules

pub returns-in_err-text-clause-within : goal.returns-in_err-text-clause-within
returns-in_err-text-clause-within g c = search rules

pub returns-in_err-text-clause-reads : goal.returns-in_err-text-clause-reads
returns-in_err-text-clause-reads g c = search rules

pub returns-in_err-head_at-in-Whole-clause-head : goal.returns-in_err-head_at-in-Whole-clause-head
returns-in_err-head_at-in-Whole-clause-head g c = search rules

pub returns-in_err-head_at-in-Whole-clause-digits
    : goal.returns-in_err-head_at-in-Whole-clause-digits
returns-in_err-head_at-in-Whole-clause-digits g c = search rules

pub returns-in_err-head_at-in-Whole-clause-within
    : goal.returns-in_err-head_at-in-Whole-clause-within
returns-in_err-head_at-in-Whole-clause-within g c = search rules

pub returns-in_err-head_at-in-Whole-clause-reads : goal.returns-in_err-head_at-in-Whole-clause-reads
returns-in_err-head_at-in-Whole-clause-reads g c = search rules

pub returns-in_ok-head_at-in-Whole-clause-digits : goal.returns-in_ok-head_at-in-Whole-clause-digits
returns-in_ok-head_at-in-Whole-clause-digits g c = search rules

pub returns-in_ok-head_at-in-Whole-clause-within : goal.returns-in_ok-head_at-in-Whole-clause-within
returns-in_ok-head_at-in-Whole-clause-within g c = search rules

pub returns-in_ok-head_at-in-Whole-clause-reads : goal.returns-in_ok-head_at-in-Whole-clause-reads
returns-in_ok-head_at-in-Whole-clause-reads g c = search rules

pub returns-in-Begun-clause-digits : goal.returns-in-Begun-clause-digits
returns-in-Begun-clause-digits g c = search rules

pub returns-in-Begun-clause-within : goal.returns-in-Begun-clause-within
returns-in-Begun-clause-within g c = search rules

pub returns-in-Begun-clause-reads : goal.returns-in-Begun-clause-reads
returns-in-Begun-clause-reads g c = search rules
