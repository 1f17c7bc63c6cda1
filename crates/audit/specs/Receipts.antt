-- What is asked of the receipts that were kept.
use Rattle.std.specs.Prelude.{◌≡◌, ℕ, ◌+◌, ◌<◌, ◌==◌, Bool, true, false, List, ◌++◌, Some, take, slice_get, Vec}
use Rattle.std.specs.List.{list_any, flat_map}
use Rattle.std.specs.declared.alloc.Global.{Global}
use Rattle.limiter_core.specs.declared.event.Entry.{Entry}
use Rattle.limiter_core.specs.declared.event.Entry.TheVariants.{Call}
use Rattle.limiter_core.specs.History.{is_call}
use Rattle.gate_ledgers.specs.Receipt.{Told}

-- all receipts, list by list
abbrev pub all_kept : List (Vec Told Global) → List Told
all_kept kept = flat_map (λ list. list.items) kept

-- some of these receipts is of this number
abbrev pub is_named : List Told → ℕ → Bool
is_named receipts number = list_any (λ receipt. receipt.number == number) receipts

-- the entry of the receipt's number is a call, with the receipt's event and reply
abbrev pub IsOfCall : List Entry → Told → Type 0
IsOfCall entries receipt =
    slice_get entries receipt.number ≡ Some (Call receipt.event receipt.reply)

-- a receipt stands: it is of a call, and no earlier receipt is of the same one. Else it is strange
pub record Stands (entries : List Entry) (earlier : List Told) (receipt : Told) : Type 0 where
  pub call : IsOfCall entries receipt
  pub anew : is_named earlier receipt.number ≡ false

-- the same in a list, which comes after these receipts
abbrev pub StandsAfter : List Entry → List Told → List Told → ℕ → Told → Type 0
StandsAfter entries earlier receipts place receipt =
    Stands entries (earlier ++ take place receipts) receipt

-- the same in one of the lists, which comes after the lists before it
abbrev pub StandsIn : List Entry → List (Vec Told Global) → ℕ → List Told → ℕ → Told → Type 0
StandsIn entries kept list receipts place receipt =
    StandsAfter entries (all_kept (take list kept)) receipts place receipt

-- a receipt is in order: its number is above that of the one before it in its list
abbrev pub IsInOrder : List Told → ℕ → Told → Type 0
IsInOrder receipts place receipt =
    (before : ℕ) (earlier : Told) → before + 1 ≡ place → slice_get receipts before ≡ Some earlier
    → earlier.number < receipt.number

-- the same in one of the lists
abbrev pub IsInOrderIn : ℕ → List Told → ℕ → Told → Type 0
IsInOrderIn list receipts place receipt = IsInOrder receipts place receipt

-- an entry is covered: where it is a call, a receipt is of its number
abbrev pub IsCovered : List Told → ℕ → Entry → Type 0
IsCovered receipts number entry = is_call entry ≡ true → is_named receipts number ≡ true
