-- Why a file gives no settings.
use Rattle.std.specs.Prelude.{ℕ, List, ◌++◌, codes, decimal}
use Rattle.counted_io.specs.declared.reading.ReadFault.{ReadFault}
use Rattle.counted_io.specs.declared.reading.ReadFault.TheVariants as Reading
use Rattle.gate_config.specs.Fault.{fault_text}
use Rattle.gate_config.specs.declared.fault.ConfigFault.{ConfigFault}
use Rattle.gate_config.specs.declared.fault.ConfigFault.TheVariants as Config
use Rattle.gateway_settings.specs.declared.exchanges.TooFewExchanges.{TooFewExchanges}
use Rattle.config_file.specs.declared.file_fault.FileFault.{FileFault}
use Rattle.config_file.specs.declared.file_fault.FileFault.TheVariants as File
use Rattle.config_file.specs.declared.unread_file.UnreadFile.{UnreadFile}
use Rattle.config_file.specs.declared.unread_file.UnreadFile.TheVariants as Left

-- the fault of a file whose bytes were not had
abbrev pub read_fault : ReadFault → FileFault
read_fault Reading.Memory = File.Config Config.Memory
read_fault Reading.Read = File.Read
read_fault Reading.TooLarge = File.Read

-- the fault of a file whose text was not had
abbrev pub fault_of : {R : Type 0} → UnreadFile R → FileFault
fault_of Left.Unopened = File.Read
fault_of (Left.Unread reader fault) = fault

-- the text of a fault
abbrev pub config_fault_text : ConfigFault → List ℕ
config_fault_text fault = codes "config: " ++ fault_text fault

abbrev pub file_fault_text : FileFault → List ℕ
file_fault_text File.Read = codes "config: read"
file_fault_text (File.Config fault) = config_fault_text fault

-- the text of settings that want more exchanges at once than are given
abbrev pub too_few_text : TooFewExchanges → List ℕ
too_few_text few = codes "exchanges: " ++ decimal few.wanted ++ codes " are wanted"
