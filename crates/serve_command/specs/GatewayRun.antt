-- What the workers of a gateway did, and what its gate counted of them.
use Rattle.std.specs.Prelude.{◌≡◌, ◌⊎◌, ℕ, Bool, false, List, ◌++◌, Option, Some, None, length}
use Rattle.std.specs.Prelude.{string_bytes}
use Rattle.limit_laws.specs.Algorithm.{Algorithm}
use Rattle.limiter_core.specs.declared.counters.Counters.{Counters}
use Rattle.audit.specs.declared.judge.Calls.{Calls}
use Rattle.gate_ledgers.specs.Making.{Making}
use Rattle.shared_gate.specs.Calls.{Pass}
use Rattle.shared_gate.specs.Closing.{calls_by}
use Rattle.shared_gate.specs.Reported.{AreCountersOfAll, ArePassesMissing}
use Rattle.client_tokens.specs.Roll.{Roll}
use Rattle.proxy.specs.Exchanges.{Policy}
use Rattle.gate_desk.specs.Desk.{IsDone}
use Rattle.gate_desk.specs.State.{DeskState}
use Rattle.serve_command.specs.declared.admin.AdminAddress.{AdminAddress}
use Rattle.serve_command.specs.declared.admin.SideAddresses.{SideAddresses}
use Rattle.serve_command.specs.Beside.{AreServedBeside, IsServedThere, LeavesAt}
pub use Rattle.serve_command.specs.Worked.{AreEnded, HasRunTo, calls_told}
pub use Rattle.serve_command.specs.Worked.{all_joined, joined, passes_in, rolls_left, served_by}
pub use Rattle.serve_command.specs.Worked.{stood_at}
pub use Rattle.serve_command.specs.Clients.{AreCountersOfRuns}

-- OFF: these tell of other calls than were made by these passes, or of permits that weren't ended,
-- or of somebody who waits
abbrev pub AreOff : List Pass → Counters → Type 0
AreOff passes counters = ¬ ((calls_told counters ≡ calls_by passes) × AreEnded counters)

-- MISCOUNTED, by the passes of so many workers, and of those beside them: the gate has calls that
-- none of these made, or counters that are off; or their listener can't tell whom it gave
pub record AreMiscounted {S : Type 0} (rules : Algorithm S) (m : Making) (workers : ℕ)
    (Lost : Type 0) : Type 0 where
  pub passes : List Pass
  pub all : length passes ≡ workers
  pub beside : List Pass
  pub off : ((calls : Calls) × ArePassesMissing rules m (passes ++ beside) calls)
      ⊎ ((counters : Counters) × AreCountersOfAll rules m (passes ++ beside) counters
      × AreOff passes counters)
      ⊎ Lost

-- SERVED, by one gate, the clients of so many workers and whoever came to the addresses beside:
-- the counters are those of the workers' runs and of the desks there, and nobody else called
pub record HasServedAll {S L C : Type 0} (rules : Algorithm S) (m : Making) (closed : L → Type 0)
    (came : L → Option (List ℕ) → Type 0) (found : L → Bool → Type 0)
    (gave : L → Roll → Type 0) (p : Policy) (begin : DeskState L) (side : SideAddresses L C)
    (workers most : ℕ) (counters : Counters) : Type 0 where
  pub beside : List Pass
  pub served : AreServedBeside (IsDone rules m closed) came found begin side beside
  pub counted : AreCountersOfRuns rules m p (came begin.front) (found begin.front false)
      (gave begin.front) workers most beside counters

-- the same by what listens at those addresses
pub record HasServedAt {S L : Type 0} (rules : Algorithm S) (m : Making) (closed : L → Type 0)
    (came : L → Option (List ℕ) → Type 0) (found : L → Bool → Type 0)
    (gave : L → Roll → Type 0) (p : Policy) (begin : DeskState L)
    (admin : Option (AdminAddress L)) (status : Option L)
    (workers most : ℕ) (counters : Counters) : Type 0 where
  pub by_lookers : List Pass
  pub by_admins : List Pass
  pub counted : AreCountersOfRuns rules m p (came begin.front) (found begin.front false)
      (gave begin.front) workers most (by_lookers ++ by_admins) counters
  pub admins : LeavesAt admin (λ at. IsServedThere (IsDone rules m closed) came found begin
      (Some (string_bytes at.host)) at.listener) by_admins
  pub lookers : LeavesAt status (IsServedThere (IsDone rules m closed) came found begin None)
      by_lookers
