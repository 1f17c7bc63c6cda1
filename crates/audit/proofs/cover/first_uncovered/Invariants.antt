use Rattle.std.proofs.Common.{List, length}
use Rattle.gate_ledgers.specs.Receipt.{Told}
use Rattle.audit.specs.Receipts.{IsCovered}
use Rattle.audit.specs.Marks.{AreNamed}
use Rattle.lemmas.proofs.Walks.{EachBefore}
use Rattle.audit.proofs.cover.first_uncovered.Given as goal

-- the entries so far are covered
abbrev pub invariant-loop-number : goal.invariant-loop-number
invariant-loop-number l =
    (receipts : List Told) → AreNamed (length l.entries) receipts l.named
    → EachBefore (IsCovered receipts) l.entries l.number
