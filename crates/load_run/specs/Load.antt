-- What a load is: an audited run of the calls of a trace.
use Rattle.std.specs.Prelude.{◌≡◌, ℕ, false, List, Vec, length}
use Rattle.std.specs.declared.alloc.Global.{Global}
use Rattle.limit_kinds.specs.declared.kinds.AnyLimit.{AnyLimit}
use Rattle.limit_kinds.specs.AnyKinds.{any_rules}
use Rattle.limiter_core.specs.declared.event.Entry.{Entry}
use Rattle.gate_journal.specs.Image.{Standing}
use Rattle.gate_ledgers.specs.Making.{Making}
use Rattle.gate_ledgers.specs.Receipt.{Told}
use Rattle.gate_history.specs.Book.{made_with}
use Rattle.gate_history.specs.Refusal.{Refusal}
use Rattle.audit.specs.declared.cause.Cause.{Cause}
use Rattle.audit.specs.Accepted.{IsHistoryOf}
use Rattle.shared_gate.specs.Calls.{Pass}
use Rattle.shared_gate.specs.Closing.{FailsBy, IsKept, is_missing}
use Rattle.script.specs.Settings.{SettingFacts}
use Rattle.script_gate.specs.Settings.{journal_of}
use Rattle.load_driver.specs.Limits.{kept_entries}
use Rattle.trace.specs.declared.arrival.Arrival.{Arrival}
use Rattle.load_run.specs.Workers.{AllOfAllFit, AreWork}
use Rattle.load_run.specs.declared.summary.Summary.{Summary}
use Rattle.load_run.specs.Summary.{summary_of}

-- what a gate of these settings is made with, whose limit is fixed at n where no line gives one
abbrev pub making_of : ℕ → SettingFacts → Making
making_of n settings = made_with any_rules (journal_of n kept_entries settings)

-- AN ACCEPTED HISTORY of a gate that was made so: it is whole and legal, and that of just these
-- receipts; these refusals fit it; and what is told is counted from it
pub record IsAccepted (m : Making) (kept : List (Vec Told Global))
    (spent : List (Vec Refusal Global)) (summary : Summary) : Type 0 where
  pub opening : Standing AnyLimit
  pub entries : List Entry
  pub legal : IsKept any_rules m opening 0 entries
  pub receipts : IsHistoryOf entries kept
  pub refusals : AllOfAllFit m (length entries) spent
  pub told : summary ≡ summary_of entries

-- A RUN by so many workers: an accepted history of their receipts, a list for each worker, which
-- beside its refusals is what it made of its arrivals
pub record IsRun (workers n : ℕ) (settings : SettingFacts) (arrivals : List Arrival)
    (summary : Summary) : Type 0 where
  pub kept : List (Vec Told Global)
  pub spent : List (Vec Refusal Global)
  pub many : length kept ≡ workers
  pub work : AreWork workers arrivals kept spent
  pub accepted : IsAccepted (making_of n settings) kept spent summary

-- a history of a gate that isn't that of just these receipts: the audit fails by this cause, the
-- first that applies, and no pass is missing
pub record IsRejected (m : Making) (kept : List (Vec Told Global)) (cause : Cause) : Type 0 where
  pub opening : Standing AnyLimit
  pub base : ℕ
  pub entries : List Entry
  pub passes : List Pass
  pub legal : IsKept any_rules m opening base entries
  pub fails : FailsBy any_rules m passes base entries kept cause
  pub present : is_missing cause ≡ false

-- a run that isn't accepted: the workers made such lists
pub record IsUnaccepted (workers n : ℕ) (settings : SettingFacts) (arrivals : List Arrival)
    (cause : Cause) : Type 0 where
  pub kept : List (Vec Told Global)
  pub spent : List (Vec Refusal Global)
  pub many : length kept ≡ workers
  pub work : AreWork workers arrivals kept spent
  pub rejected : IsRejected (making_of n settings) kept cause
