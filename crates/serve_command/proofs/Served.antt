-- Who was served by one gate, by what listens at the addresses beside that of clients.
use Rattle.std.proofs.Common.{subst, Bool, false, ℕ, List, Option, None, Some}
use Rattle.std.proofs.Common.{IfOk, IfSome, Result, Ok, Err}
use Rattle.limit_laws.specs.Algorithm.{Algorithm}
use Rattle.limiter_core.specs.declared.counters.Counters.{Counters}
use Rattle.gate_ledgers.specs.Making.{Making}
use Rattle.shared_gate.specs.Calls.{Pass}
use Rattle.client_tokens.specs.Roll.{Roll}
use Rattle.proxy.specs.Exchanges.{Policy}
use Rattle.gate_desk.specs.Desk.{IsDone}
use Rattle.gate_desk.specs.State.{DeskState}
use Rattle.serve_command.specs.declared.admin.AdminAddress.{AdminAddress}
use Rattle.serve_command.specs.declared.admin.SideAddresses.{SideAddresses}
use Rattle.serve_command.specs.Beside.{IsLookingAt, IsOperatingAt}
use Rattle.serve_command.specs.GatewayRun.{AreCountersOfRuns, HasServedAll, HasServedAt}
use Rattle.serve_command.proofs.Beside.{admin_there, status_there}

pub on_ok : {T E : Type 0} {P Q : T → Type 0} (r : Result T E) → ((v : T) → P v → Q v)
    → IfOk r P → IfOk r Q
on_ok (Ok v) f p = f v p
on_ok (Err e) f p = tt

module _ {S L C : Type 0} (rules : Algorithm S) (m : Making) (closed : L → Type 0)
    (came : L → Option (List ℕ) → Type 0) (found : L → Bool → Type 0)
    (gave : L → Roll → Type 0) (p : Policy) (begin : DeskState L)
    (admin : Option (AdminAddress L)) (status : Option L)
    (side : SideAddresses L C) (workers most : ℕ) where
  abbrev AllServed : Counters → Type 0
  AllServed = HasServedAll rules m closed came found gave p begin side workers most

  at : (counters : Counters) → IsOperatingAt admin side.admin → IsLookingAt status side.status
      → AllServed counters
      → HasServedAt rules m closed came found gave p begin admin status workers most counters
  at counters operating looking all =
      let served = all.served in
      record {
        by_lookers = served.lookers;
        by_admins = served.admins;
        counted =
            subst (λ (passes : List Pass). AreCountersOfRuns rules m p (came begin.front)
            (found begin.front false) (gave begin.front) workers most passes
            counters) served.all all.counted;
        admins =
            admin_there (IsDone rules m closed) came found begin admin side.admin served.admins
            operating served.admin;
        lookers =
            status_there (IsDone rules m closed) came found begin status side.status
            served.lookers looking served.status;
      }

  pub served_at : (told : Option Counters) → IsOperatingAt admin side.admin
      → IsLookingAt status side.status → IfSome told AllServed
      → IfSome told (HasServedAt rules m closed came found gave p begin admin status workers most)
  served_at None operating looking all = tt
  served_at (Some counters) operating looking all = at counters operating looking all
