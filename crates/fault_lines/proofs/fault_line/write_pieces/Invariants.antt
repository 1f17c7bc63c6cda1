use Rattle.std.proofs.Common.{◌≡◌, map, take}
use Rattle.std.specs.List.{concat}
use Rattle.counted_io.specs.Counted.{failures_of}
use Rattle.counted_io.specs.Effects.{Wrote}
use Rattle.fault_lines.proofs.fault_line.write_pieces.Given as goal

abbrev pub invariant-loop-piece : goal.invariant-loop-piece
invariant-loop-piece g l = record {
  written : Wrote g.W.Write.contents l.fn.writer l.writer
      (concat (map (λ piece. piece.now) (take l.piece-index l.pieces)));
  failures : failures_of l.writer ≡ failures_of l.fn.writer;
}
