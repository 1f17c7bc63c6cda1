-- Workers on threads, and what they leave.
use Rattle.std.specs.Prelude.{◌≡◌, ◌≤◌, ◌+◌, ℕ, Bool, false, List, [], ◌∷◌, Option, None, Some, ⊤}
use Rattle.std.specs.Prelude.{IfSome}
use Rattle.counted_io.specs.Count.{count_end}
use Rattle.gate_port.specs.Log.{Known}
use Rattle.gate_port.specs.Shown.{Shown}
use Rattle.tcp_backend.specs.declared.connecting.TcpBackend.{TcpBackend}
use Rattle.tcp_backend.specs.declared.dialing.Dialer.{Dialer}
use Rattle.tcp_backend.specs.Connecting.{address_of, connector_of, count_of, host_of, limit_of}
use Rattle.serving.specs.declared.jobs.Context.{Context}
use Rattle.serving.specs.declared.jobs.WorkerExit.{WorkerExit}
use Rattle.serving.specs.declared.jobs.Job.{Job}
use Rattle.serving.specs.declared.jobs.Job.TheVariants as job
use Rattle.serving.specs.declared.jobs.JobResult.{JobResult}
use Rattle.serving.specs.declared.jobs.JobResult.TheVariants as left
use Rattle.serving.specs.declared.jobs.Worker.{Worker}
use Rattle.serving.specs.declared.working.TurnCounts.{TurnCounts}
use Rattle.serving.specs.declared.working.WorkerSettings.{WorkerSettings}
use Rattle.listening.specs.Accepted.{listener_of, token_of}
use Rattle.client_tokens.specs.Roll.{Roll, nobody}
use Rattle.handling.specs.declared.door.Door.{Door}
use Rattle.handling.specs.Doors.{counted_in, failed_of, given_of, is_closed, roll_at}
use Rattle.proxy.specs.Exchanges.{Bytes, Policy}
use Rattle.serving.specs.Served.{back_of, policy_of}
use Rattle.serving.specs.Turns.{IsRun, Place, place_of}

-- the workers among some jobs, in order
abbrev pub workers_in : {A P B T X : Type 0} → List (Job A P B T X) → List (Worker A P B)
workers_in [] = []
workers_in (job.SideTask task ∷ jobs) = workers_in jobs
workers_in (job.Worker context worker ∷ jobs) = worker ∷ workers_in jobs

-- the tasks beside them
abbrev pub tasks_in : {A P B T X : Type 0} → List (Job A P B T X) → List T
tasks_in [] = []
tasks_in (job.SideTask task ∷ jobs) = task ∷ tasks_in jobs
tasks_in (job.Worker context worker ∷ jobs) = tasks_in jobs

-- all jobs that are in a context are in this one
abbrev pub AreWithin : {A P B T X : Type 0} → X → List (Job A P B T X) → Type 0
AreWithin x [] = ⊤
AreWithin x (job.SideTask task ∷ jobs) = AreWithin x jobs
AreWithin x (job.Worker context worker ∷ jobs) = (context.now ≡ x) × AreWithin x jobs

-- what the workers among them left
abbrev pub ended_in : {A P B D : Type 0} → List (JobResult A P B D) → List (WorkerExit A P B)
ended_in [] = []
ended_in (left.SideTask made ∷ lefts) = ended_in lefts
ended_in (left.Worked ended ∷ lefts) = ended ∷ ended_in lefts

-- what the tasks beside them made
abbrev pub made_in : {A P B D : Type 0} → List (JobResult A P B D) → List D
made_in [] = []
made_in (left.SideTask made ∷ lefts) = made ∷ made_in lefts
made_in (left.Worked ended ∷ lefts) = made_in lefts

-- WORKED: by this policy somebody took turns from one place to another, each with a client who came
-- or with none, and forwarded no more than there were clients
pub record IsWork (p : Policy) (most : ℕ) (came : Bytes → Type 0) (Shut : Type 0)
    (old new : Place) (tally : TurnCounts) : Type 0 where
  pub bounded : most ≤ count_end
  pub run : IsRun p came Shut most old new tally
  pub turns : tally.accepted + tally.unaccepted ≤ most
  pub whole : new.closed ≡ false → tally.accepted + tally.unaccepted ≡ most
  pub once : new.back.count ≤ old.back.count + tally.accepted
  pub accepted : old.given + most ≤ count_end → new.given ≡ old.given + tally.accepted
  pub unaccepted : old.failed + most ≤ count_end → new.failed ≡ old.failed + tally.unaccepted

-- and so a worker did, by the place where it stands, by who comes to its door and whether that was
-- shut; its clients come from where they came
abbrev pub HasWorked : {A P B S : Type 0} → (A → P → B → Place) → (A → Bytes → Type 0)
    → (A → Type 0) → (A → S) → Policy → ℕ → Worker A P B → WorkerExit A P B → Type 0
HasWorked place came shut source p most worker ended =
    IsWork p most (came worker.door) (shut worker.door)
    (place worker.door worker.port worker.backend)
    (place ended.door ended.port ended.backend) ended.tally
    × (source ended.door ≡ source worker.door)

-- in a context: by the settings there, with marks or without, as many turns as are asked for
abbrev pub WorksIn : {A P B S R L E C W : Type 0} → (A → P → B → Place)
    → (A → Bytes → Type 0) → (A → Type 0) → (A → S) → Context R L E C W → Worker A P B
    → WorkerExit A P B → Type 0
WorksIn place came shut source context =
    HasWorked place came shut source
    (policy_of context.common.now.settings.now context.common.now.marks)
    context.common.now.per_worker

-- what a worker leaves, by what it does
abbrev pub Leaves : {A P B D : Type 0} → (WorkerExit A P B → Type 0) → JobResult A P B D → Type 0
Leaves works (left.SideTask made) = ⊥
Leaves works (left.Worked ended) = works ended

-- what a task beside the workers leaves, which may make this
abbrev pub IsMade : {A P B D : Type 0} → (D → Type 0) → JobResult A P B D → Type 0
IsMade makes (left.SideTask made) = makes made
IsMade makes (left.Worked ended) = ⊥

-- what each job leaves, by what a worker does in its context, and what a task makes
abbrev pub Makes : {A P B T D X : Type 0} → (X → Worker A P B → WorkerExit A P B → Type 0)
    → (T → D → Type 0) → Job A P B T X → JobResult A P B D → Type 0
Makes works makes (job.SideTask task) left = IsMade (makes task) left
Makes works makes (job.Worker context worker) left = Leaves (works context.now worker) left

-- a new worker, with this port, a backend at an address that was given nothing and whose calls may
-- take so many nanoseconds, where that is limited, and a door to a listener, where nobody was given
pub record Begins {R T L K N V C P : Type 0} (listener : L) (roll : L → K → Option Roll)
    (most : Option ℕ) (address : List ℕ) (port : P)
    (worker : Worker (Door L K N) P (TcpBackend (Dialer R T) T V C)) : Type 0 where
  pub opens_to : listener_of (counted_in worker.door) ≡ listener
  pub port_is : worker.port ≡ port
  pub given : given_of worker.door ≡ 0
  pub failed : failed_of worker.door ≡ 0
  pub unclosed : is_closed worker.door ≡ false
  pub unrolled : IfSome (roll_at roll worker.door) (λ rolled. rolled ≡ nobody)
  pub unused : count_of worker.backend ≡ 0
  pub limited : limit_of worker.backend ≡ most
  pub reaches : address_of (connector_of worker.backend) ≡ address
  pub host : host_of worker.backend ≡ address

-- TALLIED: what a worker tells of its turns is what its door counted, its accepts and those that
-- failed; no more was forwarded than there were clients; and there were as many turns as asked for,
-- or fewer where its listener was closed
pub record IsTallied (given failed : ℕ) (closed : Bool) (forwarded most : ℕ) (tally : TurnCounts)
    : Type 0 where
  pub accepted : given ≡ tally.accepted
  pub unaccepted : failed ≡ tally.unaccepted
  pub once : forwarded ≤ tally.accepted
  pub turns : tally.accepted + tally.unaccepted ≤ most
  pub whole : closed ≡ false → tally.accepted + tally.unaccepted ≡ most

-- RAN: a worker of this port, by the settings that all share, took its turns, as they are tallied;
-- each client came to that listener, and for each there was one exchange; just these clients were
-- given and left by the token of its door
pub record HasRun {R T L K N C W V P : Type 0} (came : L → Bytes → Type 0)
    (found : L → Bool → Type 0) (roll : L → K → Option Roll) (shown : P → Option Shown)
    (known : P → Option Known) (common : WorkerSettings L C W) (port : P)
    (ended : WorkerExit (Door L K N) P (TcpBackend (Dialer R T) T V C)) : Type 0 where
  pub run : IsRun (policy_of common.settings.now common.marks)
      (came common.listener.now) (found common.listener.now false) common.per_worker
      (record {
        given = 0;
        failed = 0;
        closed = false;
        visits = None;
        roll = Some nobody;
        back = record { shown = shown port; known = known port; count = 0; log = None };
      })
      (place_of given_of failed_of is_closed (λ _. None)
      (λ door. roll common.listener.now (token_of (counted_in door)))
      (back_of shown known count_of (λ _. None)) ended.door ended.port ended.backend) ended.tally
  pub tallied : IsTallied (given_of ended.door) (failed_of ended.door) (is_closed ended.door)
      (count_of ended.backend) common.per_worker ended.tally
