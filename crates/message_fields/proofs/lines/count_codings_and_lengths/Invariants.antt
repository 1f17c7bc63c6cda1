use Rattle.std.proofs.Common.{◌≡◌, ◌≤◌, take}
use Rattle.std.specs.Prelude.{codes}
use Rattle.message_fields.specs.Lines.{count_named}
use Rattle.message_fields.proofs.lines.count_codings_and_lengths.Given as goal

abbrev pub invariant-loop-line : goal.invariant-loop-line
invariant-loop-line l = record {
  codings : l.codings ≡ count_named (codes "transfer-encoding") (take l.line-index l.lines);
  lengths : l.lengths ≡ count_named (codes "content-length") (take l.line-index l.lines);
  few : (l.codings ≤ l.line-index) × (l.lengths ≤ l.line-index);
}
