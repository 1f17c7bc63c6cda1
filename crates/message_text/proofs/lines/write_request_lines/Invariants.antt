use Rattle.std.proofs.Common.{◌≡◌, take, if◌then◌else◌, []}
use Rattle.std.specs.List.{flat_map}
use Rattle.counted_io.specs.Counted.{failures_of, flushes_of}
use Rattle.counted_io.specs.Effects.{Wrote}
use Rattle.message_fields.specs.Passed.{is_passed_in_request}
use Rattle.message_text.specs.Line.{line_text}
use Rattle.message_text.specs.Forwarded.{hosted, lent}
use Rattle.message_text.proofs.lines.write_request_lines.Given as goal

-- what is kept of the lines so far was written
abbrev pub invariant-loop-line : goal.invariant-loop-line
invariant-loop-line g l = record {
  written : Wrote g.W.Write.contents l.fn.writer l.writer
      (flat_map (λ line. if is_passed_in_request l.lines line
      then line_text (hosted (lent l.authority) line)
      else [])
      (take l.line-index l.lines));
  failures : failures_of l.writer ≡ failures_of l.fn.writer;
  flushes : flushes_of l.writer ≡ flushes_of l.fn.writer;
}
