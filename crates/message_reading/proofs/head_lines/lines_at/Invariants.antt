use Rattle.std.proofs.Common.{◌≡◌, ◌≤◌, length, map, take, vec_len, vec_capacity}
use Rattle.message_reading.specs.WholeHeads.{line_at}
use Rattle.message_reading.proofs.head_lines.lines_at.Given as goal

abbrev pub invariant-loop-at : goal.invariant-loop-at
invariant-loop-at l = record {
  copied : l.lines.items ≡ map (line_at l.text) (take l.at l.spans);
  len : vec_len l.lines ≡ l.at;
  room : length l.spans ≤ vec_capacity l.lines;
}
