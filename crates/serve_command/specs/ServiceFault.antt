-- Why a gateway ended with a fault.
use Rattle.std.specs.Prelude.{ℕ, List, codes}
use Rattle.config_file.specs.FileFault.{file_fault_text, too_few_text}
use Rattle.serving.specs.declared.fault.ServeFault.{ServeFault}
use Rattle.serving.specs.declared.fault.ServeFault.TheVariants as Serve
use Rattle.serve_command.specs.Descriptors.{few_descriptors_text}
use Rattle.serve_command.specs.declared.fault.ServiceFault.{ServiceFault}
use Rattle.serve_command.specs.declared.fault.ServiceFault.TheVariants as Service

-- why the workers didn't serve
abbrev pub of_workers : ServeFault → ServiceFault
of_workers Serve.Memory = Service.Memory
of_workers Serve.Thread = Service.Thread

-- the text of a fault
abbrev pub service_fault_text : ServiceFault → List ℕ
service_fault_text (Service.Config fault) = file_fault_text fault
service_fault_text (Service.Exchanges few) = too_few_text few
service_fault_text (Service.Descriptors few) = few_descriptors_text few
service_fault_text Service.Listen = codes "listen"
service_fault_text Service.Memory = codes "memory"
service_fault_text Service.Thread = codes "thread"
service_fault_text Service.Miscounted = codes "miscounted"
service_fault_text Service.Write = codes "write"
