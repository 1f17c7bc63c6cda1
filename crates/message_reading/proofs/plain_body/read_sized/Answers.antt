use Rattle.std.proofs.Common.{rules}
use Rattle.message_reading.proofs.plain_body.read_sized.Goals as goal

pub returns-in_err-fill-clause-body : goal.returns-in_err-fill-clause-body
returns-in_err-fill-clause-body c = search rules

pub returns-in_err-fill-clause-within : goal.returns-in_err-fill-clause-within
returns-in_err-fill-clause-within c = search rules

pub returns-in_err-fill-clause-goes_on : goal.returns-in_err-fill-clause-goes_on
returns-in_err-fill-clause-goes_on c = search rules

pub returns-clause-body : goal.returns-clause-body
returns-clause-body c = search rules

pub returns-clause-within : goal.returns-clause-within
returns-clause-within c = search rules

pub returns-clause-goes_on : goal.returns-clause-goes_on
returns-clause-goes_on c = search rules
