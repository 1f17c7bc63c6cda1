use Rattle.message_text.proofs.Texts.{wrote_then, local_whole}
use Rattle.message_text.proofs.Fronts.{front_err, front_first, front_last}
use Rattle.message_text.proofs.answer.write_local_answer.Goals as goal

pub returns-clause-all : goal.returns-clause-all
returns-clause-all g c =
    wrote_then c.write_and_flush.result _ _ _ _ _ _ (local_whole c.args.persistence c.args.status)
    c.in_ok-write_status.ensures.all (rw c.local_rest.ensures at c.write_and_flush.ensures.all)

pub returns-in_err-write_status-clause-front : goal.returns-in_err-write_status-clause-front
returns-in_err-write_status-clause-front g c =
    front_err _ _ _ _ _ (local_whole c.args.persistence c.args.status)
    (front_first _ _ _ _ c.in_err-write_status.ensures.front)

pub returns-clause-front : goal.returns-clause-front
returns-clause-front g c =
    front_last c.write_and_flush.result _ _ _ _ _ _ (local_whole c.args.persistence c.args.status)
    c.in_ok-write_status.ensures.all (rw c.local_rest.ensures at c.write_and_flush.ensures.front)
