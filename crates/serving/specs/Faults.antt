-- Why nothing was served.
use Rattle.tasks.specs.declared.running.TasksFault.{TasksFault}
use Rattle.tasks.specs.declared.running.TasksFault.TheVariants as tasks
use Rattle.serving.specs.declared.fault.ServeFault.{ServeFault}
use Rattle.serving.specs.declared.fault.ServeFault.TheVariants as serve

-- what it is that not all workers were run
abbrev pub of_tasks : TasksFault → ServeFault
of_tasks tasks.Memory = serve.Memory
of_tasks tasks.Thread = serve.Thread
