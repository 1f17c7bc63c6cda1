-- What stops a simulation is what stops a command over a text.
use Rattle.std.proofs.Common.{◌≡◌, ◌<◌, ◌⊎◌, ℕ, true, inl, inr, ap, List, length, Option, Some, Result, Ok, Err, IfErr, IsErrOf}
use Rattle.counted_io.specs.declared.counted.Counted.{Counted}
use Rattle.counted_io.specs.Causes.{IsReadCause, IsWriteCause}
use Rattle.counted_io.specs.Counted.{failures_of, is_flushed}
use Rattle.counted_io.specs.Effects.{IfLeft, Wrote}
use Rattle.load_driver.specs.declared.driver.DriverFault.{DriverFault}
use Rattle.load_driver.specs.declared.driver.DriverFault.TheVariants as driver
use Rattle.load_driver.specs.Driver.{IfLine, IsOutOfMemory, OnAnswer}
use Rattle.load_driver.specs.Limits.{most_reads, most_script}
use Rattle.virtual_time.specs.Simulation.{IsSimulated}
use Rattle.commands.specs.declared.command_line.TextTask.TheVariants.{Simulate}
use Rattle.text_commands.specs.Scripts.{IsStop}

one_of_three : {A B C P : Type 0} → (A → P) → (B → P) → (C → P) → A ⊎ B ⊎ C → P
one_of_three first second third (inl a) = first a
one_of_three first second third (inr (inl b)) = second b
one_of_three first second third (inr (inr c)) = third c

-- a result and its fault, one from the other
abbrev failed : DriverFault → Result (Unit {0}) DriverFault
failed fault = Err fault

abbrev fault_or : DriverFault → Result (Unit {0}) DriverFault → DriverFault
fault_or other (Ok v) = other
fault_or other (Err fault) = fault

pub simulation_stops : {R W : Type 0} (remaining : R → Option (List ℕ))
    (contents : W → Option (List ℕ)) (limit : ℕ) (result : Result (Unit {0}) DriverFault)
    (before after : Counted R) (old new : Counted W)
    → IfErr result (λ fault. IfLine fault (λ at. IfLeft remaining before (λ text.
    IsSimulated limit text (Some at) (Wrote contents old new))))
    → OnAnswer result (is_flushed new ≡ true)
    → (IsErrOf result driver.Memory → IsOutOfMemory remaining before after)
    → (IsErrOf result driver.Read → IsReadCause most_reads before after)
    → (IsErrOf result driver.TooLarge
    → IfLeft remaining before (λ text. most_script < length text))
    → (IsErrOf result driver.Write → IsWriteCause old new)
    → (¬ IsErrOf result driver.Read → failures_of after ≡ failures_of before)
    → (¬ IsErrOf result driver.Write → failures_of new ≡ failures_of old)
    → (IsErrOf result driver.Memory → new ≡ old) → (IsErrOf result driver.Read → new ≡ old)
    → (IsErrOf result driver.TooLarge → new ≡ old)
    → IfErr result (IsStop remaining contents (Simulate limit) before after old new)
simulation_stops remaining contents limit (Ok v) before after old new line flushed memory read
    too_large write only_read only_write none_at_memory none_at_read none_at_large =
    tt
simulation_stops remaining contents limit (Err fault) before after old new line flushed memory read
    too_large write only_read only_write none_at_memory none_at_read none_at_large =
    record {
      line = line;
      flushed = flushed;
      memory = λ is. memory (ap failed is);
      too_large = λ is. too_large (ap failed is);
      read = λ is. read (ap failed is);
      write = λ is. write (ap failed is);
      only_read_fails = λ isnt. only_read (λ is. isnt (ap (fault_or fault) is));
      only_write_fails = λ isnt. only_write (λ is. isnt (ap (fault_or fault) is));
      unchanged = one_of_three (λ is. none_at_memory (ap failed is))
          (λ is. none_at_read (ap failed is)) (λ is. none_at_large (ap failed is));
    }
