use Rattle.std.proofs.Common.{IfOk, take}
use Rattle.clap.specs.Words.{App}
use Rattle.commands.specs.CommandLine.{IsWithoutGlobals}
use Rattle.commands.specs.Rows.{with_rows}
use Rattle.commands.proofs.interface.with_rows.Given as goal

-- the rows so far are added
abbrev pub invariant-loop-row : goal.invariant-loop-row
invariant-loop-row l = (app : App) → IfOk l.initial.command (IsWithoutGlobals app)
    → IfOk l.command (IsWithoutGlobals (with_rows app (take l.row-index l.rows)))
