-- What a step of reading gives: a value, or the fault that ends the reading.
use Rattle.std.specs.Prelude.{ℕ, Result, Ok, Err, IsOk, ◌≡◌, ◌≢◌}
use Rattle.gate_config.specs.declared.fault.ConfigFault.{ConfigFault}
use Rattle.gate_config.specs.declared.fault.ConfigFault.TheVariants as Fault
use Rattle.gate_config.specs.Fault.{fault_placed}

-- the next step on a value, and a fault as it is
abbrev pub ◌>>=◌ : {A B : Type 0} → Result A ConfigFault → (A → Result B ConfigFault) →
    Result B ConfigFault
Ok a >>= next = next a
Err fault >>= next = Err fault

infixl 15 ◌>>=◌
-- a value seen through a function, and a fault as it is
abbrev pub result_map : {A B : Type 0} → (A → B) → Result A ConfigFault → Result B ConfigFault
result_map f (Ok a) = Ok (f a)
result_map f (Err fault) = Err fault

-- a value as it is, and a fault as that of this table of an array
abbrev pub of_member : {A : Type 0} → ℕ → Result A ConfigFault → Result A ConfigFault
of_member place (Ok a) = Ok a
of_member place (Err fault) = Err (fault_placed place fault)

-- the answer is the one that is said, out of memory aside
abbrev pub Answers : {A V : Type 0} → (A → V) → Result V ConfigFault → Result A ConfigFault → Type 0
Answers shown said (Ok a) = said ≡ Ok (shown a)
Answers shown said (Err fault) = fault ≢ Fault.Memory → said ≡ Err fault

-- what was read is what is said, or else its fault was answered
abbrev pub Settles : {V : Type 0} → Result V ConfigFault → Result (Unit {0}) ConfigFault → Type 0
Settles said (Ok done) = IsOk said
Settles said (Err fault) = said ≡ Err fault
