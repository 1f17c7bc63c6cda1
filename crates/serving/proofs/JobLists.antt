-- Lists of jobs, and of what they leave.
use Rattle.std.proofs.Common.{◌≡◌, List, [], ◌∷◌, ◌++◌, ap, subst, arith, length}
use Rattle.std.specs.List.{AllZip}
use Rattle.serving.specs.declared.jobs.WorkerExit.{WorkerExit}
use Rattle.serving.specs.declared.jobs.Job.{Job}
use Rattle.serving.specs.declared.jobs.Job.TheVariants as job
use Rattle.serving.specs.declared.jobs.JobResult.{JobResult}
use Rattle.serving.specs.declared.jobs.JobResult.TheVariants as left
use Rattle.serving.specs.declared.jobs.Worker.{Worker}
use Rattle.serving.specs.Workers.{AreWithin, Makes, ended_in, made_in, tasks_in, workers_in}

-- one more worker among some jobs
pub one_worker : {A P B T X : Type 0} (jobs : List (Job A P B T X)) (h : Job A P B T X)
    (w : Worker A P B) → workers_in (h ∷ []) ≡ w ∷ []
    → workers_in (jobs ++ h ∷ []) ≡ workers_in jobs ++ w ∷ []
one_worker [] h w same = same
one_worker (job.SideTask task ∷ jobs) h w same = one_worker jobs h w same
one_worker {A} {P} {B} (job.Worker context worker ∷ jobs) h w same =
    ap (λ (ws : List (Worker A P B)). worker ∷ ws) (one_worker jobs h w same)

-- the tasks beside them are the same
pub no_task : {A P B T X : Type 0} (jobs : List (Job A P B T X)) (h : Job A P B T X)
    → tasks_in (h ∷ []) ≡ [] → tasks_in (jobs ++ h ∷ []) ≡ tasks_in jobs
no_task [] h none = none
no_task {A} {P} {B} {T} (job.SideTask task ∷ jobs) h none =
    ap (λ (ts : List T). task ∷ ts) (no_task jobs h none)
no_task (job.Worker context worker ∷ jobs) h none = no_task jobs h none

-- one more task beside them
pub one_task : {A P B T X : Type 0} (jobs : List (Job A P B T X)) (h : Job A P B T X) (t : T)
    → tasks_in (h ∷ []) ≡ t ∷ [] → tasks_in (jobs ++ h ∷ []) ≡ tasks_in jobs ++ t ∷ []
one_task [] h t same = same
one_task {A} {P} {B} {T} (job.SideTask task ∷ jobs) h t same =
    ap (λ (ts : List T). task ∷ ts) (one_task jobs h t same)
one_task (job.Worker context worker ∷ jobs) h t same = one_task jobs h t same

-- the workers among them are the same
pub no_worker : {A P B T X : Type 0} (jobs : List (Job A P B T X)) (h : Job A P B T X)
    → workers_in (h ∷ []) ≡ [] → workers_in (jobs ++ h ∷ []) ≡ workers_in jobs
no_worker [] h none = none
no_worker (job.SideTask task ∷ jobs) h none = no_worker jobs h none
no_worker {A} {P} {B} (job.Worker context worker ∷ jobs) h none =
    ap (λ (ws : List (Worker A P B)). worker ∷ ws) (no_worker jobs h none)

-- where no worker is among them, all are within any context
pub none_within : {A P B T X : Type 0} (x : X) (jobs : List (Job A P B T X))
    → workers_in jobs ≡ [] → AreWithin x jobs
none_within x [] none = tt
none_within x (job.SideTask task ∷ jobs) none = none_within x jobs none
none_within x (job.Worker context worker ∷ jobs) none = absurd (omega (arith, ap length none))

pub one_within : {A P B T X : Type 0} (x : X) (jobs : List (Job A P B T X))
    (h : Job A P B T X)
    → AreWithin x jobs → AreWithin x (h ∷ []) → AreWithin x (jobs ++ h ∷ [])
one_within x [] h all own = own
one_within x (job.SideTask task ∷ jobs) h all own = one_within x jobs h all own
one_within x (job.Worker context worker ∷ jobs) h all own =
    (all.0, one_within x jobs h all.1 own)

-- what jobs leave
module _ {A P B T D X : Type 0} (works : X → Worker A P B → WorkerExit A P B → Type 0)
    (makes : T → D → Type 0) where
  abbrev AllDone : List (Job A P B T X) → List (JobResult A P B D) → Type 0
  AllDone = AllZip (Makes works makes)

  made_by : (jobs : List (Job A P B T X)) (lefts : List (JobResult A P B D))
      → AllDone jobs lefts → AllZip makes (tasks_in jobs) (made_in lefts)
  made_by [] [] all = tt
  made_by [] (l ∷ ls) all = absurd all
  made_by (h ∷ hs) [] all = absurd all
  made_by (job.SideTask task ∷ hs) (left.SideTask made ∷ ls) all = (all.0, made_by hs ls all.1)
  made_by (job.SideTask task ∷ hs) (left.Worked ended ∷ ls) all = absurd all.0
  made_by (job.Worker context worker ∷ hs) (left.SideTask made ∷ ls) all = absurd all.0
  made_by (job.Worker context worker ∷ hs) (left.Worked ended ∷ ls) all = made_by hs ls all.1

  -- what the tasks beside the workers made
  pub all_made : (tasks : List T) (jobs : List (Job A P B T X))
      (lefts : List (JobResult A P B D)) → tasks_in jobs ≡ tasks → AllDone jobs lefts
      → AllZip makes tasks (made_in lefts)
  all_made tasks jobs lefts same all =
      subst (λ (ts : List T). AllZip makes ts (made_in lefts)) same (made_by jobs lefts all)

  worked_in : (x : X) (jobs : List (Job A P B T X)) (lefts : List (JobResult A P B D))
      → AllDone jobs lefts → AreWithin x jobs
      → AllZip (works x) (workers_in jobs) (ended_in lefts)
  worked_in x [] [] all within = tt
  worked_in x [] (l ∷ ls) all within = absurd all
  worked_in x (h ∷ hs) [] all within = absurd all
  worked_in x (job.SideTask task ∷ hs) (left.SideTask made ∷ ls) all within =
      worked_in x hs ls all.1 within
  worked_in x (job.SideTask task ∷ hs) (left.Worked ended ∷ ls) all within = absurd all.0
  worked_in x (job.Worker context worker ∷ hs) (left.SideTask made ∷ ls) all within = absurd all.0
  worked_in x (job.Worker context worker ∷ hs) (left.Worked ended ∷ ls) all within = (
    subst (λ (c : X). works c worker ended) within.0 all.0,
    worked_in x hs ls all.1 within.1,
  )

  -- what the workers leave, where all are in the same context
  pub all_worked : (x : X) (workers : List (Worker A P B)) (jobs : List (Job A P B T X))
      (lefts : List (JobResult A P B D)) → workers_in jobs ≡ workers → AllDone jobs lefts
      → AreWithin x jobs → AllZip (works x) workers (ended_in lefts)
  all_worked x workers jobs lefts same all within =
      subst (λ (ws : List (Worker A P B)). AllZip (works x) ws (ended_in lefts)) same
      (worked_in x jobs lefts all within)
