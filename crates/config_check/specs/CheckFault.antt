-- Why a configuration isn't accepted.
use Rattle.std.specs.Prelude.{ℕ, List, codes}
use Rattle.config_check.specs.declared.check_fault.CheckFault.{CheckFault}
use Rattle.config_check.specs.declared.check_fault.CheckFault.TheVariants as Check
use Rattle.config_file.specs.FileFault.{file_fault_text, too_few_text}

-- the text of a fault
abbrev pub check_fault_text : CheckFault → List ℕ
check_fault_text (Check.File fault) = file_fault_text fault
check_fault_text (Check.Exchanges few) = too_few_text few
check_fault_text Check.Write = codes "write"
