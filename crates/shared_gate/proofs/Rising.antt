-- The receipts of a pass rise.
use Rattle.std.proofs.Common.{◌≡◌, ℕ, zero, suc, ◌≤◌, List, [], ◌∷◌, Some, sym, ap, subst, arith}
use Rattle.std.specs.Prelude.{slice_get}
use Rattle.std.proofs.lemmas.Option.{none-some, same_Some}
use Rattle.gate_ledgers.specs.Receipt.{Told}
use Rattle.audit.specs.Accepted.{NumbersRise}
use Rattle.shared_gate.specs.Seen.{AreOfOnePass, SeenCall, OrderIsNeverTheCause, ReceiptsOfAPassRise}
use Rattle.shared_gate.specs.Seen.{receipts_of}

-- no receipt has a number that was seen before
above : (seen : ℕ) (calls : List SeenCall) → AreOfOnePass seen calls → (place : ℕ) (receipt : Told)
    → slice_get (receipts_of calls) place ≡ Some receipt → seen ≤ receipt.number
above seen [] are place receipt here = absurd (none-some receipt here)
above seen (call ∷ calls) are zero receipt here =
    omega (arith, are.0, are.1.0, ap (λ (t : Told). t.number) (same_Some call.receipt receipt here))
above seen (call ∷ calls) are (suc place) receipt here =
    omega (arith, are.0, are.1.0, are.1.1, above call.after calls are.2 place receipt here)

pub rise : ReceiptsOfAPassRise
rise seen [] are place later one other less here there = absurd (none-some one here)
rise seen (call ∷ calls) are place zero one other less here there = absurd (omega (arith, less))
rise seen (call ∷ calls) are zero (suc later) one other less here there =
    omega (
      arith,
      are.1.1,
      ap (λ (t : Told). t.number) (same_Some call.receipt one here),
      above call.after calls are.2 later other there,
    )
rise seen (call ∷ calls) are (suc place) (suc later) one other less here there =
    rise call.after calls are.2 place later one other (omega (arith, less)) here there

pub never : OrderIsNeverTheCause
never a kept list place is =
    let first = is.3 in
    let own = kept list first.list first.here in
    let rises : NumbersRise first.list.items =
    subst NumbersRise (sym own.2) (rise 0 own.0 own.1) in
    first.item.lacks
    (λ before earlier next at.
    rises before place earlier first.item.item (omega (arith, next)) at first.item.here)
