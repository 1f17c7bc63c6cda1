use Rattle.std.proofs.Common.{◌≡◌, ◌≤◌, ◌+◌, ℕ}
use Rattle.std.specs.Prelude.{All, length, sum_by}
use mathlib.Core.List.{IsPrefix}
use Rattle.gate_word.specs.Rule.{times}
use Rattle.shared_gate.specs.Calls.{Pass}
use Rattle.shared_gate.specs.Closing.{times_by}
use Rattle.shared_gate.proofs.closing.count_calls.Given as goal

-- the passes so far came back, each of which knew a beginning of the log, and the book and the
-- keeper are as they were
abbrev pub invariant-loop-pass : goal.invariant-loop-pass
invariant-loop-pass g l = record {
  sum : l.returned.calls ≡ sum_by (λ (pass : Pass). pass.count) l.yielded;
  few : l.returned.calls ≤ l.book.tally.calls;
  many : l.returned.passes ≡ length l.yielded;
  all : l.returned.passes ≡ l.book.tally.passes → l.returned.calls ≡ l.book.tally.calls;
  book : l.book ≡ l.fn.book;
  table : l.keeper.table ≡ l.initial.keeper.table;
  log : l.keeper.log ≡ l.initial.keeper.log;
  numbers : (n : ℕ) → times n l.keeper.own ≡ times n l.initial.keeper.own + times_by n l.yielded;
  once : (n : ℕ) → times_by n l.yielded ≤ 1;
  begun : All (λ (pass : Pass). IsPrefix pass.log l.initial.keeper.log) l.yielded;
}
