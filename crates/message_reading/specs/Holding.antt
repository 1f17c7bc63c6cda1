-- What a call that reads a body did to the memory that its bytes were asked of.
use Rattle.std.specs.Prelude.{◌≡◌, ℕ, Option, Result, IfOk, IsErrOf}
use Rattle.counted_io.specs.Count.{raised}
use Rattle.body_memory.specs.Memory.{more}
use Rattle.message_reading.specs.declared.fault.MessageFault.{MessageFault}
use Rattle.message_reading.specs.declared.fault.MessageFault.TheVariants.{Bodies}

-- it refused some once more
abbrev pub Refuses : ℕ → ℕ → Type 0
Refuses old new = new ≡ raised old

-- what is read is held, so many bytes more; and unless the fault is `Bodies`, nothing was refused
pub record Holds {X : Type 0} (bytes : X → ℕ) (result : Result X MessageFault)
    (held held' : Option ℕ) (refused refused' : ℕ) : Type 0 where
  pub holds : IfOk result (λ x. held' ≡ more (bytes x) held)
  pub accepted : (IsErrOf result Bodies → ⊥) → refused' ≡ refused
