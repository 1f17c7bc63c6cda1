use Rattle.message_text.proofs.Unambiguous.{answers_its_length, answers_no_coding}
use Rattle.message_text.proofs.laws.answered_in_one_way.Goals as goal

pub returns-clause-length : goal.returns-clause-length
returns-clause-length c = λ answer. answers_its_length answer

pub returns-clause-coding : goal.returns-clause-coding
returns-clause-coding c = λ answer. answers_no_coding answer
