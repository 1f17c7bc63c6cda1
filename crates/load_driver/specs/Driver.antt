-- Faults of the drivers, and their texts.
use Rattle.std.specs.Prelude.{◌≡◌, ℕ, ◌≤◌, ◌⊎◌, List, length, codes, Option, Result, Ok, Err}
use Rattle.counted_io.specs.declared.counted.Counted.{Counted}
use Rattle.counted_io.specs.declared.reading.ReadFault.{ReadFault}
use Rattle.counted_io.specs.declared.reading.ReadFault.TheVariants as reading
use Rattle.counted_io.specs.Causes.{HasReadAll, IsMemoryCause}
use Rattle.script.specs.declared.line_fault.LineFault.{LineFault}
use Rattle.script.specs.Faults.{line_fault_text}
use Rattle.load_driver.specs.declared.driver.DriverFault.{DriverFault}
use Rattle.load_driver.specs.declared.driver.DriverFault.TheVariants.{Memory, Read, TooLarge, Line, Write}
use Rattle.load_driver.specs.Limits.{most_script, kept_entries}
use Rattle.load_driver.specs.Opening.{replay_text}

-- a fact of the line at fault, where the fault is a line's
abbrev pub IfLine : DriverFault → (LineFault → Type 0) → Type 0
IfLine Memory P = Unit {0}
IfLine Read P = Unit {0}
IfLine TooLarge P = Unit {0}
IfLine (Line fault) P = P fault
IfLine Write P = Unit {0}

-- a fact of what was answered: a script whole, or up to the line at fault
abbrev pub OnAnswer : Result (Unit {0}) DriverFault → Type 0 → Type 0
OnAnswer (Ok v) P = P
OnAnswer (Err fault) P = IfLine fault (λ _. P)

-- the answer to a script of at most 16 MiB: the line at fault that ended it, if one did, and what
-- was written
abbrev pub IsAnswer : ℕ → List ℕ → Option LineFault → (List ℕ → Type 0) → Type 0
IsAnswer n script fault Written =
    (length script ≤ most_script)
    × ((replay_text n kept_entries script).fault ≡ fault)
    × Written (replay_text n kept_entries script).out

-- no read failed, and what was read is some of an input, or all of it, and at most 16 MiB
abbrev pub IsOutOfMemory : {R : Type 0} → (R → Option (List ℕ)) → Counted R → Counted R → Type 0
IsOutOfMemory remaining old new =
    IsMemoryCause remaining most_script old new ⊎ HasReadAll remaining most_script old new

-- what a driver tells of a fault of reading
abbrev pub told_of_read : ReadFault → DriverFault
told_of_read reading.Memory = Memory
told_of_read reading.Read = Read
told_of_read reading.TooLarge = TooLarge

-- the text of a fault
abbrev pub fault_text : DriverFault → List ℕ
fault_text Memory = codes "memory"
fault_text Read = codes "read"
fault_text TooLarge = codes "too large"
fault_text (Line fault) = line_fault_text fault
fault_text Write = codes "write"
