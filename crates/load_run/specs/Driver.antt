-- What a load writes, and why it stops.
use Rattle.std.specs.Prelude.{◌≡◌, ℕ, ◌≤◌, List, length, Option, None, Some}
use Rattle.counted_io.specs.declared.counted.Counted.{Counted}
use Rattle.counted_io.specs.Causes.{HasReadAll}
use Rattle.counted_io.specs.Effects.{IfLeft}
use Rattle.counted_io.specs.declared.reading.ReadFault.{ReadFault}
use Rattle.counted_io.specs.declared.reading.ReadFault.TheVariants as reading
use Rattle.tasks.specs.declared.running.TasksFault.{TasksFault}
use Rattle.tasks.specs.declared.running.TasksFault.TheVariants as tasks
use Rattle.script.specs.declared.line_fault.LineFault.{LineFault}
use Rattle.script.specs.Settings.{SettingFacts}
use Rattle.load_driver.specs.Limits.{most_script}
use Rattle.audit.specs.declared.cause.Cause.{Cause}
use Rattle.trace.specs.declared.arrival.Arrival.{Arrival}
use Rattle.trace.specs.Trace.{TraceFacts, trace_of}
use Rattle.load_run.specs.declared.fault.LoadFault.{LoadFault}
use Rattle.load_run.specs.declared.fault.LoadFault.TheVariants.{Memory, Read, TooLarge, Line, Thread, Audit}
use Rattle.load_run.specs.declared.summary.Summary.{Summary}
use Rattle.load_run.specs.Summary.{summary_text}
use Rattle.load_run.specs.Load.{IsRun, IsUnaccepted}

-- what a load tells of a fault of reading
abbrev pub told_of_read : ReadFault → LoadFault
told_of_read reading.Memory = Memory
told_of_read reading.Read = Read
told_of_read reading.TooLarge = TooLarge

-- what it tells where the workers weren't all at work
abbrev pub told_of_tasks : TasksFault → LoadFault
told_of_tasks tasks.Memory = Memory
told_of_tasks tasks.Thread = Thread

-- a fact of the line at fault, where the fault is a line's
abbrev pub IfLine : LoadFault → (LineFault → Type 0) → Type 0
IfLine (Line fault) P = P fault
IfLine _ P = Unit {0}

-- a fact of the audit's cause, where the fault is the audit's
abbrev pub IfAudit : LoadFault → (Cause → Type 0) → Type 0
IfAudit (Audit cause) P = P cause
IfAudit _ P = Unit {0}

-- why a run stops: out of memory, for lack of a thread, or since its audit fails by this cause
abbrev pub StopsRun : ℕ → ℕ → SettingFacts → List Arrival → LoadFault → Type 0
StopsRun workers n settings arrivals Memory = Unit {0}
StopsRun workers n settings arrivals Thread = Unit {0}
StopsRun workers n settings arrivals (Audit cause) = IsUnaccepted workers n settings arrivals cause
StopsRun workers n settings arrivals _ = ⊥

-- why a trace stops: at its line at fault, which starts no worker, or as its run does
abbrev pub StopsTrace : ℕ → ℕ → TraceFacts → LoadFault → Type 0
StopsTrace workers n trace (Line fault) = trace.calls.fault ≡ Some fault
StopsTrace workers n trace fault = StopsRun workers n trace.settings trace.calls.arrivals fault

-- a thread was lacking once a trace of at most 16 MiB was read whole, without a line at fault
abbrev pub LacksThread : {R : Type 0} → (R → Option (List ℕ)) → Counted R → Counted R → Type 0
LacksThread remaining old new =
    HasReadAll remaining most_script old new
    × IfLeft remaining old (λ text. (trace_of text).calls.fault ≡ None)

-- THE ANSWER to a trace of at most 16 MiB without a line at fault: the two lines of a run of its
-- calls that an audit accepted
pub record IsLoaded (workers n : ℕ) (text : List ℕ) (Written : List ℕ → Type 0) : Type 0 where
  pub small : length text ≤ most_script
  pub whole : (trace_of text).calls.fault ≡ None
  pub summary : Summary
  pub run : IsRun workers n (trace_of text).settings (trace_of text).calls.arrivals summary
  pub written : Written (summary_text summary)

-- the answer to a trace of at most 16 MiB that has this line at fault
abbrev pub IsAtFault : List ℕ → LineFault → Type 0
IsAtFault text fault = (length text ≤ most_script) × ((trace_of text).calls.fault ≡ Some fault)

-- the answer to a trace of at most 16 MiB, of whose run the audit fails by this cause
abbrev pub IsRefused : ℕ → ℕ → List ℕ → Cause → Type 0
IsRefused workers n text cause =
    (length text ≤ most_script)
    × IsUnaccepted workers n (trace_of text).settings (trace_of text).calls.arrivals cause
