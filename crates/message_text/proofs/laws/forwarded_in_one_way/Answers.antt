use Rattle.message_text.proofs.Unambiguous.{tells_one_host, tells_its_length, tells_no_coding}
use Rattle.message_text.proofs.laws.forwarded_in_one_way.Goals as goal

pub returns-clause-host : goal.returns-clause-host
returns-clause-host c = λ request. tells_one_host request

pub returns-clause-length : goal.returns-clause-length
returns-clause-length c = λ request. tells_its_length request

pub returns-clause-coding : goal.returns-clause-coding
returns-clause-coding c = λ request. tells_no_coding request
