-- What a command over a text writes, and what ends it.
use Rattle.std.specs.Prelude.{◌≡◌, ◌≢◌, ◌<◌, ◌⊎◌, ℕ, true, List, length, Option, Some}
use Rattle.counted_io.specs.declared.counted.Counted.{Counted}
use Rattle.counted_io.specs.Causes.{IsReadCause, IsWriteCause}
use Rattle.counted_io.specs.Counted.{failures_of, is_flushed}
use Rattle.counted_io.specs.Effects.{IfLeft, Wrote}
use Rattle.load_driver.specs.declared.driver.DriverFault.{DriverFault}
use Rattle.load_driver.specs.declared.driver.DriverFault.TheVariants.{Memory, Read, TooLarge, Line, Write}
use Rattle.load_driver.specs.Driver.{IfLine, IsAnswer, IsOutOfMemory}
use Rattle.load_driver.specs.Limits.{most_reads, most_script}
use Rattle.script.specs.declared.line_fault.LineFault.{LineFault}
use Rattle.virtual_time.specs.Simulation.{IsSimulated}
use Rattle.script.specs.declared.forms.TextKind.{TextKind}
use Rattle.script.specs.declared.forms.TextKind.TheVariants.{Script, Trace}
use Rattle.line_explain.specs.BehindFault.{IsSaid}
use Rattle.commands.specs.declared.command_line.TextTask.{TextTask}
use Rattle.commands.specs.declared.command_line.TextTask.TheVariants.{Replay, Simulate}

-- the answer of a command to a text: the line at fault that ended it, if one did, and what was
-- written
abbrev pub IsAnswerOf : TextTask → List ℕ → Option LineFault → (List ℕ → Type 0) → Type 0
IsAnswerOf (Replay limit) = IsAnswer limit
IsAnswerOf (Simulate limit) = IsSimulated limit

-- what a command reads
abbrev pub kind_of : TextTask → TextKind
kind_of (Replay limit) = Script
kind_of (Simulate limit) = Trace

-- what is written behind the line of a fault, where an explanation is asked for: that of the line
-- at fault, by what was kept of this kind of text, or nothing, for this lack of memory; and of any
-- other fault nothing
abbrev pub IsMore : {E : Type 0} → Type 0 → TextKind → Option (List ℕ) → (E → Option (List ℕ))
    → DriverFault → Counted E → Counted E → Type 0
IsMore Lacked kind kept contents (Line at) old new = IsSaid Lacked kind kept contents at old new
IsMore Lacked kind kept contents _ old new = new ≡ old

-- why a command over a text stops: a line at fault is the text's, and what was told before it is
-- written and flushed; each other fault has its cause, and no other call failed; and nothing is
-- written out of memory, of a text that can't be read or is too large
pub record IsStop {R W : Type 0} (remaining : R → Option (List ℕ)) (contents : W → Option (List ℕ))
    (task : TextTask) (before after : Counted R) (old new : Counted W) (fault : DriverFault)
    : Type 0 where
  pub line : IfLine fault (λ at. IfLeft remaining before (λ text.
      IsAnswerOf task text (Some at) (Wrote contents old new)))
  pub flushed : IfLine fault (λ at. is_flushed new ≡ true)
  pub memory : fault ≡ Memory → IsOutOfMemory remaining before after
  pub too_large : fault ≡ TooLarge → IfLeft remaining before (λ script. most_script < length script)
  pub read : fault ≡ Read → IsReadCause most_reads before after
  pub write : fault ≡ Write → IsWriteCause old new
  pub only_read_fails : fault ≢ Read → failures_of after ≡ failures_of before
  pub only_write_fails : fault ≢ Write → failures_of new ≡ failures_of old
  pub unchanged : (fault ≡ Memory) ⊎ (fault ≡ Read) ⊎ (fault ≡ TooLarge) → new ≡ old
