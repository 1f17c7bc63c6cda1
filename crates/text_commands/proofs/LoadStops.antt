-- What stops a load is what stops its command.
use Rattle.std.proofs.Common.{◌≡◌, ◌<◌, ℕ, ap, List, length, Option, Result, Ok, Err, IfErr, IsErrOf, OnErr}
use Rattle.counted_io.specs.declared.counted.Counted.{Counted}
use Rattle.counted_io.specs.Causes.{IsReadCause, IsWriteCause}
use Rattle.counted_io.specs.Count.{raised}
use Rattle.counted_io.specs.Counted.{failures_of}
use Rattle.counted_io.specs.Effects.{IfLeft}
use Rattle.load_driver.specs.Driver.{IsOutOfMemory}
use Rattle.load_driver.specs.Limits.{most_reads, most_script}
use Rattle.load_run.specs.declared.fault.LoadFault.{LoadFault}
use Rattle.load_run.specs.declared.fault.LoadFault.TheVariants as load
use Rattle.load_run.specs.Driver.{IfAudit, IfLine, IsAtFault, IsRefused, LacksThread}
use Rattle.text_commands.specs.Loads.{IsLoadStop}

-- a result and its fault, one from the other
abbrev failed : LoadFault → Result (Unit {0}) LoadFault
failed fault = Err fault

abbrev fault_or : LoadFault → Result (Unit {0}) LoadFault → LoadFault
fault_or other (Ok v) = other
fault_or other (Err fault) = fault

pub load_stops : {R W : Type 0} (remaining : R → Option (List ℕ)) (workers n earlier later : ℕ)
    (result : Result (Unit {0}) LoadFault) (before after : Counted R) (old new : Counted W)
    → IfErr result (λ fault. IfLine fault (λ at. IfLeft remaining before (λ text.
    IsAtFault text at)))
    → IfErr result (λ fault. IfAudit fault (λ cause. IfLeft remaining before (λ text.
    IsRefused workers n text cause)))
    → (IsErrOf result load.Memory → IsOutOfMemory remaining before after)
    → (IsErrOf result load.Thread → LacksThread remaining before after)
    → (IsErrOf result load.Thread → later ≡ raised earlier)
    → (IsErrOf result load.Read → IsReadCause most_reads before after)
    → (IsErrOf result load.TooLarge
    → IfLeft remaining before (λ text. most_script < length text))
    → (IsErrOf result load.Write → IsWriteCause old new)
    → (¬ IsErrOf result load.Read → failures_of after ≡ failures_of before)
    → (¬ IsErrOf result load.Write → failures_of new ≡ failures_of old)
    → OnErr result (¬ IsErrOf result load.Write → new ≡ old)
    → IfErr result (IsLoadStop remaining workers n earlier later before after old new)
load_stops remaining workers n earlier later (Ok v) before after old new line audit memory thread
    lacking read too_large write only_read only_write nothing =
    tt
load_stops remaining workers n earlier later (Err fault) before after old new line audit memory
    thread lacking read too_large write only_read only_write nothing =
    record {
      line = line;
      audit = audit;
      memory = λ is. memory (ap failed is);
      thread = λ is. thread (ap failed is);
      lacking = λ is. lacking (ap failed is);
      too_large = λ is. too_large (ap failed is);
      read = λ is. read (ap failed is);
      write = λ is. write (ap failed is);
      only_read_fails = λ isnt. only_read (λ is. isnt (ap (fault_or fault) is));
      only_write_fails = λ isnt. only_write (λ is. isnt (ap (fault_or fault) is));
      unchanged = λ isnt. nothing (λ is. isnt (ap (fault_or fault) is));
    }
