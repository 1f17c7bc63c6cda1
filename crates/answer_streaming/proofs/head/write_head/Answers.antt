use Rattle.std.proofs.Common.{◌≡◌, ◌∙◌, ◌++◌, ap, refl, ℕ, List}
use Rattle.counted_io.specs.Counted.{inner_of}
use Rattle.message_text.specs.Answer.{front_text}
use Rattle.answer_streaming.specs.Texts.{head_text, told_text}
use Rattle.answer_streaming.proofs.Parts.{two_first, two_last}
use Rattle.answer_streaming.proofs.head.write_head.Goals as goal

pub returns-in_err-write_front-clause-front : goal.returns-in_err-write_front-clause-front
returns-in_err-write_front-clause-front g c =
    let held = g.W.Write.contents in
    let a = held (inner_of c.args.writer.now) in
    let b = held (inner_of c.write_front.new.writer) in
    let head = c.args.head in
    let front = front_text head.status head.headers.now in
    two_first c.from_residual.result a b b front (told_text head.delimiting head.persistence)
    (head_text head.delimiting head.persistence front) refl c.in_err-write_front.ensures.front

pub returns-clause-front : goal.returns-clause-front
returns-clause-front g c =
    let held = g.W.Write.contents in
    let a = held (inner_of c.args.writer.now) in
    let b = held (inner_of c.write_front.new.writer) in
    let e = held (inner_of c.write_all.new.writer) in
    let head = c.args.head in
    let front = front_text head.status head.headers.now in
    let told : c.as_slice.result.now ≡ told_text head.delimiting head.persistence =
    c.as_slice.ensures.value ∙ c.told.ensures in
    two_last c.write_all.result a b e front c.as_slice.result.now
    (head_text head.delimiting head.persistence front)
    (ap (λ (t : List ℕ). front ++ t) told) c.in_ok-write_front.ensures.all
    c.write_all.ensures.front
