use Rattle.std.proofs.Common.{◌≡◌, ◌≤◌, ◌+◌, replicate, vec_capacity}
use Rattle.shared_gate.proofs.opening.make_passes.Given as goal

-- so many so far, which the book gave, by none of which a call was made, and there is room for the
-- others; the journal stays
abbrev pub invariant-loop : goal.invariant-loop
invariant-loop g l = record {
  made : l.passes.items ≡ replicate l.counter 0;
  room : l.count ≤ vec_capacity l.passes;
  journal : l.book.journal ≡ l.fn.book.journal;
  given : l.book.tally.passes ≡ l.fn.book.tally.passes + l.counter;
}
