-- What stands before a line of the log in systemd's journal.
use Rattle.std.specs.Prelude.{ℕ, List, codes}
use Rattle.log.specs.declared.level.Level.{Level}
use Rattle.log.specs.declared.level.Level.TheVariants as level

-- the priority of a level
abbrev pub priority : Level → List ℕ
priority level.Error = codes "<3>"
priority level.Warn = codes "<4>"
priority level.Info = codes "<6>"
priority level.Debug = codes "<7>"
priority level.Trace = codes "<7>"
