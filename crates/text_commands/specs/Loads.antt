-- What ends a load, and its fault's text.
use Rattle.std.specs.Prelude.{◌≡◌, ◌≢◌, ◌<◌, ◌∷◌, [], ℕ, List, length, Option, codes}
use Rattle.std.specs.List.{concat}
use Rattle.counted_io.specs.declared.counted.Counted.{Counted}
use Rattle.counted_io.specs.Causes.{IsReadCause, IsWriteCause}
use Rattle.counted_io.specs.Count.{raised}
use Rattle.counted_io.specs.Counted.{failures_of}
use Rattle.counted_io.specs.Effects.{IfLeft}
use Rattle.audit.specs.Text.{cause_text}
use Rattle.script.specs.Faults.{line_fault_text}
use Rattle.load_driver.specs.Driver.{IsOutOfMemory}
use Rattle.load_driver.specs.Limits.{most_reads, most_script}
use Rattle.load_run.specs.declared.fault.LoadFault.{LoadFault}
use Rattle.load_run.specs.declared.fault.LoadFault.TheVariants.{Memory, Read, TooLarge, Line, Write, Thread, Audit}
use Rattle.script.specs.declared.forms.TextKind.TheVariants.{Trace}
use Rattle.line_explain.specs.BehindFault.{IsSaid}
use Rattle.load_run.specs.Driver.{IfAudit, IfLine, IsAtFault, IsRefused, LacksThread}

-- the text of a fault
abbrev pub load_fault_text : LoadFault → List ℕ
load_fault_text Memory = codes "memory"
load_fault_text Read = codes "read"
load_fault_text TooLarge = codes "too large"
load_fault_text (Line fault) = line_fault_text fault
load_fault_text Write = codes "write"
load_fault_text Thread = codes "thread"
load_fault_text (Audit cause) = concat (codes "audit: " ∷ cause_text cause ∷ [])

-- what is written behind the line of a fault, where an explanation is asked for: that of the line
-- at fault, by what was kept of the trace, or nothing, for this lack of memory; and of any other
-- fault nothing
abbrev pub IsMore : {E : Type 0} → Type 0 → Option (List ℕ) → (E → Option (List ℕ)) → LoadFault
    → Counted E → Counted E → Type 0
IsMore Lacked kept contents (Line at) old new = IsSaid Lacked Trace kept contents at old new
IsMore Lacked kept contents _ old new = new ≡ old

-- why a load stops, by how many threads were refused before and after: a line at fault is the
-- trace's, and an audit's cause that of its run; each other fault has its cause, and no other call
-- failed; and nothing is written but on a fault of writing
pub record IsLoadStop {R W : Type 0} (remaining : R → Option (List ℕ)) (workers n : ℕ)
    (refused_before refused_after : ℕ) (before after : Counted R) (old new : Counted W)
    (fault : LoadFault) : Type 0 where
  pub line : IfLine fault (λ at. IfLeft remaining before (λ text. IsAtFault text at))
  pub audit : IfAudit fault (λ cause. IfLeft remaining before (λ text.
      IsRefused workers n text cause))
  pub memory : fault ≡ Memory → IsOutOfMemory remaining before after
  pub thread : fault ≡ Thread → LacksThread remaining before after
  pub lacking : fault ≡ Thread → refused_after ≡ raised refused_before
  pub too_large : fault ≡ TooLarge → IfLeft remaining before (λ text. most_script < length text)
  pub read : fault ≡ Read → IsReadCause most_reads before after
  pub write : fault ≡ Write → IsWriteCause old new
  pub only_read_fails : fault ≢ Read → failures_of after ≡ failures_of before
  pub only_write_fails : fault ≢ Write → failures_of new ≡ failures_of old
  pub unchanged : fault ≢ Write → new ≡ old
