use Rattle.std.proofs.Common.{◌≡◌, ◌<◌, ℕ, Some, length, take}
use Rattle.std.specs.Prelude.{slice_get, Vec}
use Rattle.std.specs.declared.alloc.Global.{Global}
use Rattle.gate_ledgers.specs.Receipt.{Told}
use Rattle.audit.specs.Firsts.{EachHas}
use Rattle.audit.specs.Receipts.{StandsIn, all_kept}
use Rattle.audit.specs.Marks.{AreNamed}
use Rattle.audit.proofs.strange.first_strange.Given as goal

-- the receipts of the lists so far stand, and the marks have their numbers
abbrev pub invariant-loop-list : goal.invariant-loop-list
invariant-loop-list g l = record {
  stand : (list : ℕ) (receipts : Vec Told Global) → list < l.list
      → slice_get l.kept list ≡ Some receipts
      → EachHas (StandsIn l.entries l.kept list receipts.items) receipts.items;
  named : AreNamed (length l.entries) (all_kept (take l.list l.kept)) l.named;
}
