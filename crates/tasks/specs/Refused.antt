-- How often no thread could be started.
use Rattle.std.specs.Prelude.{ℕ}
use Rattle.tasks.specs.declared.spawner.Spawner.{Spawner}

-- how many threads the system refused
abbrev pub refused_of : {R : Type 0} → Spawner R → ℕ
refused_of spawner = spawner.refused
