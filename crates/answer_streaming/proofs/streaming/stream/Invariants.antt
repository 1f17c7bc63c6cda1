use Rattle.std.proofs.Common.{◌≡◌, ◌<◌}
use Rattle.counted_io.specs.Counted.{calls_of, failures_of, inner_of}
use Rattle.message_text.specs.Answer.{front_text}
use Rattle.answer_streaming.specs.Texts.{opening_text}
use Rattle.answer_streaming.specs.Waits.{Waits}
use Rattle.answer_streaming.proofs.OnTheWay.{IsUnderway}
use Rattle.answer_streaming.proofs.streaming.stream.Given as goal

abbrev pub invariant-loop : goal.invariant-loop
invariant-loop g l =
    let left = g.R.Read.remaining in
    let held = g.W.Write.contents in
    let begun = l.fn.begun in
    record {
      way : IsUnderway begun.source.rest begun.head.delimiting
          (opening_text begun.head.delimiting begun.head.persistence
          (front_text begun.head.status begun.head.headers.now) begun.source.bytes.items)
          (left (inner_of l.fn.reader)) (held (inner_of l.fn.writer)) (left (inner_of l.reader))
          (held (inner_of l.writer)) l.source.rest l.delimiting;
      room : 0 < l.source.room;
      unfailing : failures_of l.reader ≡ failures_of l.fn.reader;
      written : failures_of l.writer ≡ failures_of l.fn.writer;
      shown : g.P.GatePort.shown l.port ≡ g.P.GatePort.shown l.fn.port;
      known : g.P.GatePort.known l.port ≡ g.P.GatePort.known l.fn.port;
      waits : Waits g.T.From.from_gives (calls_of l.fn.writer) l.fn.looks (calls_of l.writer)
          l.waited l.looks;
      facts : g.P.GatePort.facts l.held ≡ g.P.GatePort.facts l.fn.permit;
    }
