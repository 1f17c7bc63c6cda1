use Rattle.std.proofs.Common.{◌≡◌, ◌≤◌, ◌<◌, true, false, length, max}
use Rattle.counted_io.specs.Counted.{calls_of, failures_of, inner_of}
use Rattle.body_pieces.specs.Beginnings.{GaveBeginning, IsAtItsEnd, Steps}
use Rattle.body_pieces.specs.Rests.{is_ended}
use Rattle.body_pieces.proofs.piece.next_piece.Given as goal

abbrev pub invariant-loop : goal.invariant-loop
invariant-loop g l =
    let left = g.R.Read.remaining in
    let old = left (inner_of l.fn.reader) in
    let now = left (inner_of l.reader) in
    record {
      read : GaveBeginning l.fn.rest old now l.piece.bytes.items l.piece.rest;
      step : Steps l.fn.rest l.piece;
      fits : length l.piece.bytes.items ≤ l.fn.room;
      some : l.piece.is_last ≡ false → 0 < length l.piece.bytes.items;
      last : l.piece.is_last ≡ true → IsAtItsEnd l.piece.rest old now;
      prompt : is_ended l.piece.rest ≡ true → l.piece.is_last ≡ true;
      unfailing : failures_of l.reader ≡ failures_of l.fn.reader;
      few : calls_of l.reader ≤ max l.fn.limit (calls_of l.fn.reader);
      on : calls_of l.fn.reader ≤ calls_of l.reader;
    }
