-- The headline: what an accepted audit says of a gate, whatever the limit algorithm and however its
-- callers' threads were interleaved.
--
-- g: what the limiter was made with, o: what stood at first, h: the entries of the history,
-- kept: the lists of receipts, one for each caller
use Rattle.std.specs.Prelude.{◌≡◌, ℕ, ◌≤◌, Bool, true, List, Some, Vec, slice_get, take}
use Rattle.std.specs.declared.alloc.Global.{Global}
use Rattle.partitions.specs.declared.part.Part.{Part}
use Rattle.partitions.specs.Table.{place_of, share}
use Rattle.limiter_core.specs.declared.event.Event.TheVariants.{Acquire}
use Rattle.limiter_core.specs.declared.event.Entry.{Entry}
use Rattle.limiter_core.specs.declared.event.Entry.TheVariants.{Call}
use Rattle.limiter_core.specs.History.{Gate, Image, image_after, limit, total}
use Rattle.limiter_core.specs.Answer.{answer, is_turned_away}
use Rattle.limiter_core.specs.Legal.{IsLegal}
use Rattle.gate_ledgers.specs.Receipt.{Told}
use Rattle.audit.specs.Firsts.{EachHas}
use Rattle.limiter_core.specs.History.{is_call}
use Rattle.audit.specs.Receipts.{all_kept}
use Rattle.audit.specs.Accepted.{IsHistoryOf, IsNamedOnce, NumbersRise}

-- what stood before the call of a receipt
abbrev pub found_by : {S : Type 0} → Gate S → Image S → List Entry → Told → Image S
found_by g o h receipt = image_after g o (take receipt.number h)

-- the reply is the sequential limiter's, to the receipt's event after the entries before its number
abbrev pub IsSequential : {S : Type 0} → Gate S → Image S → List Entry → Told → Type 0
IsSequential g o h receipt =
    slice_get (answer g o (take receipt.number h) receipt.event) 0
    ≡ Some (Call receipt.event receipt.reply)

-- an acquire that was refused or queued found the limit reached and its partition's share taken
abbrev pub IsTurnedAwayRightly : {S : Type 0} → Gate S → Image S → List Entry → Told → Type 0
IsTurnedAwayRightly g o h receipt =
    (part : Part) (bypass wait : Bool) (now : ℕ)
    → receipt.event ≡ Acquire part bypass wait now → is_turned_away receipt.reply ≡ true
    → let found = found_by g o h receipt in
    (limit g found ≤ total found)
    × (share g.rows (place_of g.rows part) (limit g found) ≤ found.inflight (place_of g.rows part))

-- THE HEADLINE: the history is one thread's, each reply is the sequential limiter's at its number,
-- nobody below a share was refused or queued, each call stands on just one receipt, and each
-- caller's receipts are in the order of the history
pub record IsOneThreads {S : Type 0}
    (g : Gate S) (o : Image S) (h : List Entry) (kept : List (Vec Told Global)) : Type 0 where
  pub one_threaded : IsLegal g o h
  pub replies : EachHas (λ place receipt. IsSequential g o h receipt) (all_kept kept)
  pub shares : EachHas (λ place receipt. IsTurnedAwayRightly g o h receipt) (all_kept kept)
  pub once : (number : ℕ) (entry : Entry) → slice_get h number ≡ Some entry
      → is_call entry ≡ true → IsNamedOnce (all_kept kept) number
  pub in_order : EachHas (λ list receipts. NumbersRise receipts.items) kept

-- so it is of every history that a gate kept and all lists of receipts that are accepted
abbrev pub AcceptedIsOneThreads : {S : Type 0} → Gate S → Type 0
AcceptedIsOneThreads {S} g = (o : Image S) (h : List Entry) (kept : List (Vec Told Global))
    → IsLegal g o h → IsHistoryOf h kept → IsOneThreads g o h kept
