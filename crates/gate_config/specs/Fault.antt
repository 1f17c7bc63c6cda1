-- What faults come of, and how they are told.
use Rattle.std.specs.Prelude.{ℕ, List, ◌++◌, Option, Some, None, codes}
use Rattle.matchit.specs.declared.error.InsertError.{InsertError}
use Rattle.matchit.specs.declared.error.InsertError.TheVariants as Insert
use Rattle.gate_config.specs.declared.fault.ConfigFault.{ConfigFault}
use Rattle.gate_config.specs.declared.fault.ConfigFault.TheVariants as Fault
use Rattle.gate_config.specs.declared.fault.KeyAtFault.{KeyAtFault}
use Rattle.gate_config.specs.declared.key.Key.{Key}
use Rattle.gate_config.specs.Rows.{path_of}

-- a key at fault outside arrays, which holds no number
abbrev pub plain : Key → KeyAtFault
plain key = record { key = key; range = None; member = None }

-- a key at fault outside arrays, which was to hold a number of a range
abbrev pub ranged : Key → ℕ → ℕ → Option ℕ → KeyAtFault
ranged key low high default = record {
  key = key;
  range = Some (record { low = low; high = high; default = default });
  member = None;
}

-- the key in this table of an array, counted from 0
abbrev pub placed : ℕ → KeyAtFault → KeyAtFault
placed place at = record at { member = Some place }

-- the fault of a key in this table of an array
abbrev pub fault_placed : ℕ → ConfigFault → ConfigFault
fault_placed place (Fault.Missing at) = Fault.Missing (placed place at)
fault_placed place (Fault.Kind at) = Fault.Kind (placed place at)
fault_placed place (Fault.Value at) = Fault.Value (placed place at)
fault_placed place fault = fault

-- the fault of a pattern that a router refuses: out of memory, or else a pattern that can't stand
-- with the others
abbrev pub insert_fault : InsertError → ConfigFault
insert_fault Insert.OutOfMemory = Fault.Memory
insert_fault _ = Fault.Route

-- a fault's word, and the dotted path of its key
abbrev pub fault_text : ConfigFault → List ℕ
fault_text Fault.Memory = codes "memory"
fault_text Fault.Toml = codes "toml"
fault_text Fault.Version = codes "version"
fault_text (Fault.Missing at) = codes "missing " ++ path_of at.key
fault_text (Fault.Kind at) = codes "kind " ++ path_of at.key
fault_text (Fault.Value at) = codes "value " ++ path_of at.key
fault_text (Fault.Unknown path) = codes "unknown " ++ path
fault_text Fault.Route = codes "route"
