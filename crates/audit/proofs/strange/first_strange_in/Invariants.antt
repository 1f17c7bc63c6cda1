use Rattle.std.proofs.Common.{◌≡◌, ◌++◌, ◌<◌, ℕ, List, Some, length, take}
use Rattle.std.specs.Prelude.{slice_get}
use Rattle.gate_ledgers.specs.Receipt.{Told}
use Rattle.audit.specs.Receipts.{StandsAfter}
use Rattle.audit.specs.Marks.{AreNamed}
use Rattle.audit.proofs.strange.first_strange_in.Given as goal

-- the receipts so far stand, and the marks have their numbers too
abbrev pub invariant-loop-place : goal.invariant-loop-place
invariant-loop-place g l = (earlier : List Told) → AreNamed (length l.entries) earlier l.fn.named
    → ((place : ℕ) (receipt : Told) → place < l.place → slice_get l.receipts place ≡ Some receipt
    → StandsAfter l.entries earlier l.receipts place receipt)
    × AreNamed (length l.entries) (earlier ++ take l.place l.receipts) l.named
