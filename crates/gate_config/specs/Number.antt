-- The number or the boolean at a key.
use Rattle.std.specs.Prelude.{ℕ, min, max, ℤ, pos, negsuc, Bool, ◌&&◌, Option, Some, None, Result, Ok, Err, nat_le, if◌then◌else◌}
use Rattle.toml.specs.Data.{Data, boolean, integer}
use Rattle.gate_config.specs.declared.fault.ConfigFault.{ConfigFault}
use Rattle.gate_config.specs.declared.fault.ConfigFault.TheVariants as Fault
use Rattle.gate_config.specs.declared.key.Key.{Key}
use Rattle.gate_config.specs.Fault.{plain, ranged}

-- the number of a range that is nearest to a number
abbrev pub nearest : ℕ → ℕ → ℕ → ℕ
nearest low high n = max low (min high n)

-- a whole number, where the range has it
abbrev pub in_range : Key → ℕ → ℕ → Option ℕ → ℤ → Result ℕ ConfigFault
in_range key low high default (pos n) =
    if nat_le low n && nat_le n high then Ok n else Err (Fault.Value (ranged key low high default))
in_range key low high default (negsuc n) = Err (Fault.Value (ranged key low high default))

-- the number of an absent key: the one of its range that is nearest to its default
abbrev pub absent_number : Key → ℕ → ℕ → Option ℕ → Result ℕ ConfigFault
absent_number key low high None = Err (Fault.Missing (ranged key low high None))
absent_number key low high (Some default) = Ok (nearest low high default)

-- a whole number from low to high
abbrev pub number_from : Key → ℕ → ℕ → Option ℕ → Option Data → Result ℕ ConfigFault
number_from key low high default None = absent_number key low high default
number_from key low high default (Some (integer z)) = in_range key low high default z
number_from key low high default (Some _) = Err (Fault.Kind (ranged key low high default))

-- a boolean, or its default
abbrev pub flag_from : Key → Bool → Option Data → Result Bool ConfigFault
flag_from key default None = Ok default
flag_from key default (Some (boolean b)) = Ok b
flag_from key default (Some _) = Err (Fault.Kind (plain key))
