-- What a call that reads a message tells.
use Rattle.std.specs.Prelude.{◌≤◌, ◌+◌, ◌⊎◌, ℕ, List, Option, Some, None, Result, Ok, Err, IfSome, ⊤}
use Rattle.counted_io.specs.declared.counted.Counted.{Counted}
use Rattle.counted_io.specs.Count.{count_end}
use Rattle.counted_io.specs.Counted.{calls_of, inner_of}
use Rattle.message_reading.specs.declared.fault.Fault.{Fault}
use Rattle.message_reading.specs.declared.fault.Fault.TheVariants as own
use Rattle.message_reading.specs.declared.fault.MessageFault.{MessageFault}
use Rattle.message_reading.specs.declared.fault.MessageFault.TheVariants as read
use Rattle.message_reading.specs.Reading.{Reading}
use Rattle.wire.specs.declared.fault.WireFault.{WireFault}
use Rattle.wire.specs.declared.fault.WireFault.TheVariants as fault

-- a fault of the bytes
abbrev pub of_bytes : Fault → WireFault
of_bytes own.Early = fault.Early
of_bytes own.Malformed = fault.Malformed
of_bytes own.HeadTooLarge = fault.HeadTooLarge
of_bytes own.BodyTooLarge = fault.BodyTooLarge
of_bytes own.Coding = fault.Coding
of_bytes own.BothLengths = fault.BothLengths
of_bytes _ = fault.Method

-- a fault of reading
abbrev pub of_read : MessageFault → WireFault
of_read read.Memory = fault.Memory
of_read read.Read = fault.Read
of_read read.TurnLimit = fault.TurnLimit
of_read read.Bodies = fault.Bodies
of_read (read.Bytes f) = of_bytes f

-- the fault of the bytes that is reported, if it is one
abbrev pub bytes_fault : WireFault → Option Fault
bytes_fault fault.Early = Some own.Early
bytes_fault fault.Malformed = Some own.Malformed
bytes_fault fault.HeadTooLarge = Some own.HeadTooLarge
bytes_fault fault.BodyTooLarge = Some own.BodyTooLarge
bytes_fault fault.Coding = Some own.Coding
bytes_fault fault.BothLengths = Some own.BothLengths
bytes_fault fault.Method = Some own.Method
bytes_fault _ = None

-- what a call returned, seen by `view`, is what reading gives of the bytes that the reader had, and
-- the rest of them is what it has left; of another fault than one of the bytes nothing is said, nor
-- where the reader's bytes aren't known
module _ {X V : Type 0} (view : X → V) (Is : List ℕ → Reading V → Type 0) where
  abbrev pub Gives : Option (List ℕ) → Option (List ℕ) → Result X WireFault → Type 0
  Gives None new result = ⊤
  Gives (Some xs) None (Ok x) = ⊥
  Gives (Some xs) (Some ys) (Ok x) = Is xs (Ok (view x, ys))
  Gives (Some xs) new (Err f) = IfSome (bytes_fault f) (λ own. Is xs (Err own))

-- the same of a counted reader before and after the call
abbrev pub Reads : {R X V : Type 0} → (R → Option (List ℕ)) → Counted R → Counted R
    → (X → V) → (List ℕ → Reading V → Type 0) → Result X WireFault → Type 0
Reads remaining old new view Is result =
    Gives view Is (remaining (inner_of old)) (remaining (inner_of new)) result

-- the most reads for one message
abbrev pub most_reads : ℕ
most_reads = 100000000

-- so many were made in the call, or their count stands at its end
abbrev pub IsUsedUp : {R : Type 0} → Counted R → Counted R → Type 0
IsUsedUp old new = (calls_of old + most_reads ≤ calls_of new) ⊎ (count_end ≤ calls_of new)
