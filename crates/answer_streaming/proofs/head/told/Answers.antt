use Rattle.answer_streaming.proofs.head.told.Goals as goal

pub returns-in-ToEnd : goal.returns-in-ToEnd
returns-in-ToEnd c = rw c.in-ToEnd.is (c.told_close.ensures c.args.persistence)
