use Rattle.std.proofs.Common.{◌≡◌, refl, rules}
use Rattle.tcp_backend.specs.Kept.{end_left}
use Rattle.tcp_backend.proofs.Sent.{sends_gathered, sends_unconnected, sends_unused}
use Rattle.tcp_backend.proofs.connecting.forward_over.Goals as goal

pub returns-in-Err-clause-written : goal.returns-in-Err-clause-written
returns-in-Err-clause-written g c =
    sends_unconnected _ _ _ _ _ c.connect.ensures.written c.unconnected.ensures.either

pub returns-in_default-clause-written : goal.returns-in_default-clause-written
returns-in_default-clause-written g c =
    sends_unused _ _ _ _ _ _ _ c.connect.ensures.written c.in-Ok.ensures.unwritten
    c.release.ensures.written refl

pub returns-clause-written : goal.returns-clause-written
returns-clause-written g c =
    let host : c.as_str.result.now ≡ c.args.line.now.host.bytes = search rules in
    sends_gathered _ _ _ _ _ _ _ _ _ _ _ c.ask-attempt.result.is_sent _
    c.connect.ensures.written c.in-Ok.ensures.unwritten
    (rw host at c.ask-attempt.ensures.front) (rw host at c.ask-attempt.ensures.sent)
    c.ask-attempt.ensures.cut c.put_back-answer.ensures.answer
    (rw c.put_back-answer.ensures.end at c.give_back.ensures.written)
