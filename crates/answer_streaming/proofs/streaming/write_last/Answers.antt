use Rattle.std.proofs.Common.{◌≡◌, ◌∙◌, ◌++◌, ap, refl, ℕ, List, length}
use Rattle.counted_io.specs.Counted.{inner_of}
use Rattle.answer_streaming.specs.Texts.{end_text, last_text, piece_text}
use Rattle.answer_streaming.proofs.OnTheWay.{end_behind}
use Rattle.answer_streaming.proofs.Parts.{two_first, two_last}
use Rattle.answer_streaming.proofs.streaming.write_last.Goals as goal

pub returns-in_err-behind-clause-front : goal.returns-in_err-behind-clause-front
returns-in_err-behind-clause-front g c =
    let held = g.W.Write.contents in
    let a = held (inner_of c.args.writer.now) in
    let b = held (inner_of c.write_piece.new.writer) in
    let d = c.args.delimiting in
    let piece = c.args.piece.now in
    two_first c.from_residual.result a b b (piece_text d piece) (end_text d) (last_text d piece)
    refl c.in_err-behind.ensures.front

pub returns-clause-front : goal.returns-clause-front
returns-clause-front g c =
    let held = g.W.Write.contents in
    let a = held (inner_of c.args.writer.now) in
    let b = held (inner_of c.write_piece.new.writer) in
    let e = held (inner_of c.finish.new.writer) in
    let d = c.args.delimiting in
    let piece = c.args.piece.now in
    let end : end_text c.in_ok-behind.behind ≡ end_text d =
    ap end_text c.in_ok-behind.ensures.after ∙ end_behind d (length piece) in
    two_last c.finish.result a b e (piece_text d piece) (end_text c.in_ok-behind.behind)
    (last_text d piece) (ap (λ (t : List ℕ). piece_text d piece ++ t) end)
    c.in_ok-behind.ensures.all c.finish.ensures.front
