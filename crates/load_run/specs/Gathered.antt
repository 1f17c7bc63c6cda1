-- What comes back of all workers.
use Rattle.std.specs.Prelude.{◌≡◌, ℕ, List, Result, Ok, Some, Vec, slice_get}
use Rattle.std.specs.declared.alloc.Global.{Global}
use Rattle.std.specs.declared.alloc.AllocError.{AllocError}
use Rattle.gate_ledgers.specs.Receipt.{Told}
use Rattle.gate_history.specs.Refusal.{Refusal}
use Rattle.load_run.specs.declared.worker.Worker.{Worker}

-- what a worker brought back stands at its place among the lists of all
pub record IsKeptAt {M : Type 0} (kept : List (Vec Told Global)) (spent : List (Vec Refusal Global))
    (place : ℕ) (back : Result (Worker M) AllocError) : Type 0 where
  pub worker : Worker M
  pub is : back ≡ Ok worker
  pub receipts : slice_get kept place ≡ Some worker.receipts
  pub refusals : slice_get spent place ≡ Some worker.refusals
