use Rattle.message_text.proofs.Texts.{front_pieces, wrote_then}
use Rattle.message_text.proofs.Fronts.{front_err, front_first, front_last}
use Rattle.message_text.proofs.answer.write_front.Goals as goal

pub returns-clause-all : goal.returns-clause-all
returns-clause-all g c =
    wrote_then c.write_response_lines.result _ _ _ _ _ _
    (front_pieces c.args.status c.args.headers.now)
    c.in_ok-write_status.ensures.all c.write_response_lines.ensures.all

pub returns-in_err-write_status-clause-front : goal.returns-in_err-write_status-clause-front
returns-in_err-write_status-clause-front g c =
    front_err _ _ _ _ _ (front_pieces c.args.status c.args.headers.now)
    (front_first _ _ _ _ c.in_err-write_status.ensures.front)

pub returns-clause-front : goal.returns-clause-front
returns-clause-front g c =
    front_last c.write_response_lines.result _ _ _ _ _ _
    (front_pieces c.args.status c.args.headers.now)
    c.in_ok-write_status.ensures.all c.write_response_lines.ensures.front
