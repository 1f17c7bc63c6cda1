use Rattle.std.proofs.Common.{rules}
use Rattle.tcp_backend.proofs.asking.answer_of.Goals as goal

pub returns-in-Err : goal.returns-in-Err
returns-in-Err c = search rules
