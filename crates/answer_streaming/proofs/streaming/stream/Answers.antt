use Rattle.std.proofs.Common.{rules, ◌≡◌, ◌∙◌, ap, length, subst, take, ℕ, List}
use Rattle.std.specs.Io.KnownBytes.{Appends}
use Rattle.counted_io.specs.Counted.{calls_of, inner_of}
use Rattle.message_text.specs.Answer.{front_text}
use Rattle.answer_streaming.specs.Texts.{behind, opening_text}
use Rattle.answer_streaming.specs.Waits.{Waits}
use Rattle.answer_streaming.proofs.OnTheWay.{behind_alike, left_behind, self_alike, unbegun, underway_more, underway_start, unwritten, whole}
use Rattle.answer_streaming.proofs.streaming.stream.Goals as goal

pub returns-in_default-clause-streamed : goal.returns-in_default-clause-streamed
returns-in_default-clause-streamed g c =
    let left = g.R.Read.remaining in
    let held = g.W.Write.contents in
    let begun = c.args.begun in
    let front = front_text begun.head.status begun.head.headers.now in
    let head = opening_text begun.head.delimiting begun.head.persistence front
    begun.source.bytes.items in
    unbegun begun.source.rest begun.head.delimiting head (left (inner_of c.args.reader.now))
    (held (inner_of c.args.writer.now)) (held (inner_of c.open_timed-opened.new.writer))
    (subst (λ (first : List ℕ). (count : ℕ) × Appends (held (inner_of c.args.writer.now))
    (held (inner_of c.open_timed-opened.new.writer))
    (take count (opening_text begun.head.delimiting begun.head.persistence front first)))
    c.deref.ensures.value c.in_default.ensures.front)

pub loop-init : goal.loop-init
loop-init g c =
    let left = g.R.Read.remaining in
    let held = g.W.Write.contents in
    let begun = c.args.begun in
    let front = front_text begun.head.status begun.head.headers.now in
    let head = opening_text begun.head.delimiting begun.head.persistence front
    begun.source.bytes.items in
    let count = length begun.source.bytes.items in
    let now = c.in-Ok.delimiting in
    let is : now ≡ behind begun.head.delimiting count = c.in-Ok.ensures.after
    ∙ ap (λ (first : List ℕ). behind begun.head.delimiting (length first)) c.deref.ensures.value in
    let wrote = subst (λ (first : List ℕ). Appends (held (inner_of c.args.writer.now))
    (held (inner_of c.open_timed-opened.new.writer))
    (opening_text begun.head.delimiting begun.head.persistence front first))
    c.deref.ensures.value c.in-Ok.ensures.all in
    record {
      way = underway_start begun.source.rest begun.head.delimiting head
          (left (inner_of c.args.reader.now)) (held (inner_of c.args.writer.now))
          (held (inner_of c.open_timed-opened.new.writer)) now
          (rw is (behind_alike begun.head.delimiting begun.head.delimiting count
          (self_alike begun.head.delimiting)))
          wrote (rw is c.requires.agree);
      room = search rules;
      unfailing = search rules;
      written = search rules;
      shown = search rules;
      known = search rules;
      waits = Waits.more (calls_of c.args.writer.now) (calls_of c.open_timed-opened.new.writer) 0
          c.open_timed-opened.new.waited c.args.looks.now c.open_timed-opened.new.looks Waits.none
          c.open_timed-opened.ensures.waits;
      facts = search rules;
    }

pub returns-in_default-write_last-clause-streamed
    : goal.returns-in_default-write_last-clause-streamed
returns-in_default-write_last-clause-streamed g c =
    let left = g.R.Read.remaining in
    let held = g.W.Write.contents in
    let begun = c.args.begun in
    let front = front_text begun.head.status begun.head.headers.now in
    let head = opening_text begun.head.delimiting begun.head.persistence front
    begun.source.bytes.items in
    let taken = c.in-Last.ensures.taken in
    unwritten begun.source.rest begun.head.delimiting head (left (inner_of c.args.reader.now))
    (held (inner_of c.args.writer.now)) (left (inner_of c.loop.reader))
    (held (inner_of c.loop.writer)) (left (inner_of c.take_piece.new.reader)) c.loop.source.rest
    c.loop.delimiting c.loop.invariant.way (held (inner_of c.write_last.new.writer))
    c.in-Last.last c.deref-in-Last.result.now taken.0 taken.3 c.deref-in-Last.ensures.value
    c.in_default-write_last.ensures.front

pub returns-in-Last-clause-streamed : goal.returns-in-Last-clause-streamed
returns-in-Last-clause-streamed g c =
    let left = g.R.Read.remaining in
    let held = g.W.Write.contents in
    let begun = c.args.begun in
    let front = front_text begun.head.status begun.head.headers.now in
    let head = opening_text begun.head.delimiting begun.head.persistence front
    begun.source.bytes.items in
    let taken = c.in-Last.ensures.taken in
    whole begun.source.rest begun.head.delimiting head (left (inner_of c.args.reader.now))
    (held (inner_of c.args.writer.now)) (left (inner_of c.loop.reader))
    (held (inner_of c.loop.writer)) (left (inner_of c.take_piece.new.reader)) c.loop.source.rest
    c.loop.delimiting c.loop.invariant.way (held (inner_of c.write_last.new.writer))
    c.in-Last.last c.deref-in-Last.result.now taken.0 taken.3 c.deref-in-Last.ensures.value
    c.in-Ok-write_last.ensures.all

pub returns-in_default-written-clause-streamed :
    goal.returns-in_default-written-clause-streamed
returns-in_default-written-clause-streamed g c =
    let left = g.R.Read.remaining in
    let held = g.W.Write.contents in
    let begun = c.args.begun in
    let front = front_text begun.head.status begun.head.headers.now in
    let head = opening_text begun.head.delimiting begun.head.persistence front
    begun.source.bytes.items in
    left_behind begun.source.rest begun.head.delimiting head (left (inner_of c.args.reader.now))
    (held (inner_of c.args.writer.now)) (left (inner_of c.loop.reader))
    (held (inner_of c.loop.writer)) (left (inner_of c.take_piece.new.reader)) c.loop.source.rest
    c.loop.delimiting c.loop.invariant.way (held (inner_of c.write_timed-written.new.writer))
    c.in-More.piece c.deref-in-More.result.now c.in-More.ensures.taken.0
    c.deref-in-More.ensures.value c.in_default-written.ensures.front

pub loop-preserved : goal.loop-preserved
loop-preserved g c =
    let left = g.R.Read.remaining in
    let held = g.W.Write.contents in
    let begun = c.args.begun in
    let front = front_text begun.head.status begun.head.headers.now in
    let head = opening_text begun.head.delimiting begun.head.persistence front
    begun.source.bytes.items in
    let taken = c.in-More.ensures.taken in
    record {
      way = underway_more begun.source.rest begun.head.delimiting head
          (left (inner_of c.args.reader.now))
          (held (inner_of c.args.writer.now)) (left (inner_of c.loop.reader))
          (held (inner_of c.loop.writer)) (left (inner_of c.take_piece.new.reader))
          c.loop.source.rest c.loop.delimiting c.loop.invariant.way
          (held (inner_of c.write_timed-written.new.writer))
          c.in-More.piece c.deref-in-More.result.now c.in-Ok-written.behind taken.0 taken.1
          c.deref-in-More.ensures.value c.in-Ok-written.ensures.all
          c.in-Ok-written.ensures.after;
      room = search rules;
      unfailing = search rules;
      written = search rules;
      shown = search rules;
      known = search rules;
      waits = Waits.more (calls_of c.loop.writer) (calls_of c.write_timed-written.new.writer)
          c.loop.waited c.write_timed-written.new.waited c.loop.looks
          c.write_timed-written.new.looks c.loop.invariant.waits (search rules);
      facts = search rules;
    }

pub returns-in_default-clause-ended : goal.returns-in_default-clause-ended
returns-in_default-clause-ended g c =
    let opened = c.open_timed-opened in record {
      waited = opened.new.waited;
      writes = calls_of opened.new.writer;
      mid = opened.new.looks;
      waits = Waits.more (calls_of c.args.writer.now) (calls_of opened.new.writer) 0
          opened.new.waited c.args.looks.now opened.new.looks Waits.none opened.ensures.waits;
      ended = search rules;
    }

pub returns-in-Broken-clause-ended : goal.returns-in-Broken-clause-ended
returns-in-Broken-clause-ended g c = record {
  waited = c.loop.waited;
  writes = calls_of c.loop.writer;
  mid = c.loop.looks;
  waits = c.loop.invariant.waits;
  ended = search rules;
}

pub returns-in_default-write_last-clause-ended : goal.returns-in_default-write_last-clause-ended
returns-in_default-write_last-clause-ended g c = record {
  waited = c.loop.waited;
  writes = calls_of c.loop.writer;
  mid = c.loop.looks;
  waits = c.loop.invariant.waits;
  ended = search rules;
}

pub returns-in-Last-clause-ended : goal.returns-in-Last-clause-ended
returns-in-Last-clause-ended g c = record {
  waited = c.loop.waited;
  writes = calls_of c.loop.writer;
  mid = c.loop.looks;
  waits = c.loop.invariant.waits;
  ended = search rules;
}

pub returns-in_default-written-clause-ended : goal.returns-in_default-written-clause-ended
returns-in_default-written-clause-ended g c =
    let written = c.write_timed-written in record {
      waited = written.new.waited;
      writes = calls_of written.new.writer;
      mid = written.new.looks;
      waits = Waits.more (calls_of c.loop.writer) (calls_of written.new.writer) c.loop.waited
          written.new.waited c.loop.looks written.new.looks c.loop.invariant.waits
          (search rules);
      ended = search rules;
    }

pub returns-clause-ended : goal.returns-clause-ended
returns-clause-ended g c = record {
  waited = c.loop.waited;
  writes = calls_of c.loop.writer;
  mid = c.loop.looks;
  waits = c.loop.invariant.waits;
  ended = search rules;
}
