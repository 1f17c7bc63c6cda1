use Rattle.std.proofs.Common.{refl}
use Rattle.counted_io.specs.Counted.{inner_of}
use Rattle.message_text.specs.Answer.{front_text}
use Rattle.answer_streaming.specs.Texts.{head_text, opening_text, piece_text}
use Rattle.answer_streaming.proofs.Parts.{two_first, two_last}
use Rattle.answer_streaming.proofs.head.write_opening.Goals as goal

pub returns-in_err-write_head-clause-front : goal.returns-in_err-write_head-clause-front
returns-in_err-write_head-clause-front g c =
    let held = g.W.Write.contents in
    let a = held (inner_of c.args.writer.now) in
    let b = held (inner_of c.write_head.new.writer) in
    let head = c.args.head in
    let front = front_text head.status head.headers.now in
    two_first c.from_residual.result a b b (head_text head.delimiting head.persistence front)
    (piece_text head.delimiting c.args.first.now)
    (opening_text head.delimiting head.persistence front c.args.first.now) refl
    c.in_err-write_head.ensures.front

pub returns-clause-front : goal.returns-clause-front
returns-clause-front g c =
    let held = g.W.Write.contents in
    let a = held (inner_of c.args.writer.now) in
    let b = held (inner_of c.write_head.new.writer) in
    let e = held (inner_of c.write_piece.new.writer) in
    let head = c.args.head in
    let front = front_text head.status head.headers.now in
    two_last c.write_piece.result a b e (head_text head.delimiting head.persistence front)
    (piece_text head.delimiting c.args.first.now)
    (opening_text head.delimiting head.persistence front c.args.first.now) refl
    c.in_ok-write_head.ensures.all c.write_piece.ensures.front
