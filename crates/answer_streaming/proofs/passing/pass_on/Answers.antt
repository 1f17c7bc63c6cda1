use Rattle.std.proofs.Common.{◌++◌, subst}
use Rattle.counted_io.specs.Counted.{calls_of, inner_of}
use Rattle.message_text.specs.Answer.{front_text}
use Rattle.answer_streaming.specs.Passed.{IsStreamed}
use Rattle.answer_streaming.specs.Texts.{delimited, head_text, piece_text}
use Rattle.answer_streaming.specs.Waits.{Waits}
use Rattle.answer_streaming.proofs.Joined.{behind_first}
use Rattle.answer_streaming.proofs.passing.pass_on.Goals as goal

pub returns-in-More-clause-passed : goal.returns-in-More-clause-passed
returns-in-More-clause-passed g c =
    let old = g.R.Read.remaining (inner_of c.args.reader.now) in
    let now = g.R.Read.remaining (inner_of c.take_piece.new.reader) in
    let new = g.R.Read.remaining (inner_of c.stream.new.reader) in
    let held = g.W.Write.contents (inner_of c.args.writer.now) in
    let holds = g.W.Write.contents (inner_of c.stream.new.writer) in
    let answer = c.args.answer in
    let front = front_text answer.status answer.headers.now in
    let first = c.in-More.first in
    let d = delimited answer.source.rest answer.is_old in
    let streamed = subst (λ x. IsStreamed first.rest x
    (head_text x answer.persistence front ++ piece_text x first.bytes.items) now new
    held holds c.stream.result) c.delimiting_for-delimiting.ensures.value
    c.stream.ensures.streamed in
    behind_first answer.source.rest first.rest d
    (head_text d answer.persistence front) first.bytes.items old now new held holds
    c.in-More.ensures.taken.0 c.stream.result streamed

pub returns-in-Last-clause-ended : goal.returns-in-Last-clause-ended
returns-in-Last-clause-ended g c = record {
  waited = 0;
  writes = calls_of c.args.writer.now;
  mid = c.args.looks.now;
  waits = Waits.none;
  ended = c.in-Last.ensures.ended;
}

pub returns-in-Broken-clause-ended : goal.returns-in-Broken-clause-ended
returns-in-Broken-clause-ended g c = record {
  waited = 0;
  writes = calls_of c.args.writer.now;
  mid = c.args.looks.now;
  waits = Waits.none;
  ended = c.in-Broken.ensures.ended;
}
