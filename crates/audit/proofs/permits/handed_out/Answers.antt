use Rattle.std.proofs.Common.{rules}
use Rattle.audit.proofs.permits.handed_out.Goals as goal

pub returns-in-Promotion : goal.returns-in-Promotion
returns-in-Promotion c = search rules

pub returns-in-Call : goal.returns-in-Call
returns-in-Call c = search rules
