-- What all workers make of the arrivals.
use Rattle.std.specs.Prelude.{◌≡◌, ℕ, ◌≤◌, List, Vec, Some, slice_get}
use Rattle.std.specs.declared.alloc.Global.{Global}
use Rattle.gate_ledgers.specs.Making.{Making}
use Rattle.gate_ledgers.specs.Receipt.{Told}
use Rattle.gate_history.specs.Refusal.{Refusal}
use Rattle.audit.specs.Firsts.{EachHas}
use Rattle.trace.specs.declared.arrival.Arrival.{Arrival}
use Rattle.load_run.specs.Worker.{IsWork}

-- the receipts of a worker, with its refusals: the list of its number among these
pub record HasWorked (workers worker : ℕ) (arrivals : List Arrival)
    (spent : List (Vec Refusal Global)) (told : List Told) : Type 0 where
  pub refused : Vec Refusal Global
  pub here : slice_get spent worker ≡ Some refused
  pub until : ℕ
  pub work : IsWork workers worker arrivals told refused.items until

-- THE RECEIPTS AND REFUSALS OF ALL WORKERS, one of so many each: a list of either for each, in the
-- order of their numbers
abbrev pub AreWork : ℕ → List Arrival → List (Vec Told Global) → List (Vec Refusal Global) → Type 0
AreWork workers arrivals kept spent =
    EachHas (λ number list. HasWorked workers number arrivals spent list.items) kept

-- a refusal fits a history of so many entries, of a gate that was made so: it tells how many are
-- kept and whether the history rolls as the gate has it, and held no more of them
pub record Fits (m : Making) (entries : ℕ) (refusal : Refusal) : Type 0 where
  pub kept : refusal.kept ≡ m.kept
  pub is_rolling : refusal.is_rolling ≡ m.is_rolling
  pub held : refusal.held ≤ entries

abbrev pub AllFit : Making → ℕ → List Refusal → Type 0
AllFit m entries refused = EachHas (λ place refusal. Fits m entries refusal) refused

-- so do all refusals of all workers
abbrev pub AllOfAllFit : Making → ℕ → List (Vec Refusal Global) → Type 0
AllOfAllFit m entries spent = EachHas (λ number list. AllFit m entries list.items) spent
