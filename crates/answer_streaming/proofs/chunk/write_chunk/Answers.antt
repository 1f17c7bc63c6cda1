use Rattle.std.proofs.Common.{◌≡◌, ◌∙◌, ◌++◌, ap, length, ℕ, List}
use Rattle.std.specs.Prelude.{codes}
use Rattle.counted_io.specs.Counted.{inner_of}
use Rattle.http1.specs.Text.{numeral}
use Rattle.body_pieces.specs.ChunkTexts.{chunk_text}
use Rattle.answer_streaming.proofs.Parts.{three_all, three_first, three_last, three_second}
use Rattle.answer_streaming.proofs.chunk.write_chunk.Goals as goal

pub returns-in_err-write_all-clause-front : goal.returns-in_err-write_all-clause-front
unfolding chunk_text
returns-in_err-write_all-clause-front g c =
    let held = g.W.Write.contents in
    let a = held (inner_of c.args.writer.now) in
    let b = held (inner_of c.write_all.new.writer) in
    let line : c.prefix.result.now ≡ numeral 16 (length c.args.piece.now) ++ codes "\r\n" =
    c.prefix.ensures ∙ c.chunk_frame-frame.ensures in
    let is : (c.prefix.result.now ++ c.args.piece.now) ++ codes "\r\n"
    ≡ chunk_text c.args.piece.now =
    ap (λ (l : List ℕ). (l ++ c.args.piece.now) ++ codes "\r\n") line in
    three_first c.from_residual.result a b b b c.prefix.result.now c.args.piece.now (codes "\r\n")
    (chunk_text c.args.piece.now) is
    c.in_err-write_all.ensures.front

pub returns-in_err-write_all-2-clause-front : goal.returns-in_err-write_all-2-clause-front
unfolding chunk_text
returns-in_err-write_all-2-clause-front g c =
    let held = g.W.Write.contents in
    let a = held (inner_of c.args.writer.now) in
    let b = held (inner_of c.write_all.new.writer) in
    let line : c.prefix.result.now ≡ numeral 16 (length c.args.piece.now) ++ codes "\r\n" =
    c.prefix.ensures ∙ c.chunk_frame-frame.ensures in
    let is : (c.prefix.result.now ++ c.args.piece.now) ++ codes "\r\n"
    ≡ chunk_text c.args.piece.now =
    ap (λ (l : List ℕ). (l ++ c.args.piece.now) ++ codes "\r\n") line in
    let m = held (inner_of c.write_all-2.new.writer) in
    three_second c.from_residual-in_err-write_all-2.result a b m m c.prefix.result.now
    c.args.piece.now (codes "\r\n") (chunk_text c.args.piece.now) is
    c.in_ok-write_all.ensures.all c.in_err-write_all-2.ensures.front

pub returns-clause-all : goal.returns-clause-all
unfolding chunk_text
returns-clause-all g c =
    let held = g.W.Write.contents in
    let a = held (inner_of c.args.writer.now) in
    let b = held (inner_of c.write_all.new.writer) in
    let line : c.prefix.result.now ≡ numeral 16 (length c.args.piece.now) ++ codes "\r\n" =
    c.prefix.ensures ∙ c.chunk_frame-frame.ensures in
    let is : (c.prefix.result.now ++ c.args.piece.now) ++ codes "\r\n"
    ≡ chunk_text c.args.piece.now =
    ap (λ (l : List ℕ). (l ++ c.args.piece.now) ++ codes "\r\n") line in
    let m = held (inner_of c.write_all-2.new.writer) in
    let d = held (inner_of c.write_and_flush.new.writer) in
    three_all c.write_and_flush.result a b m d c.prefix.result.now c.args.piece.now (codes "\r\n")
    (chunk_text c.args.piece.now) is
    c.in_ok-write_all.ensures.all c.in_ok-write_all-2.ensures.all c.write_and_flush.ensures.all

pub returns-clause-front : goal.returns-clause-front
unfolding chunk_text
returns-clause-front g c =
    let held = g.W.Write.contents in
    let a = held (inner_of c.args.writer.now) in
    let b = held (inner_of c.write_all.new.writer) in
    let line : c.prefix.result.now ≡ numeral 16 (length c.args.piece.now) ++ codes "\r\n" =
    c.prefix.ensures ∙ c.chunk_frame-frame.ensures in
    let is : (c.prefix.result.now ++ c.args.piece.now) ++ codes "\r\n"
    ≡ chunk_text c.args.piece.now =
    ap (λ (l : List ℕ). (l ++ c.args.piece.now) ++ codes "\r\n") line in
    let m = held (inner_of c.write_all-2.new.writer) in
    let d = held (inner_of c.write_and_flush.new.writer) in
    three_last c.write_and_flush.result a b m d c.prefix.result.now c.args.piece.now (codes "\r\n")
    (chunk_text c.args.piece.now) is
    c.in_ok-write_all.ensures.all c.in_ok-write_all-2.ensures.all c.write_and_flush.ensures.front
