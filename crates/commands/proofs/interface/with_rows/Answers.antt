use Rattle.std.proofs.Common.{sym, subst, IfOk, take}
use Rattle.std.proofs.lemmas.List.Sums.{fold_more}
use Rattle.clap.specs.Words.{App}
use Rattle.commands.specs.CommandLine.{IsWithoutGlobals}
use Rattle.commands.specs.Rows.{with_row, with_rows}
use Rattle.commands.proofs.interface.with_rows.Goals as goal

-- one row more
pub loop-row-preserved : goal.loop-row-preserved
loop-row-preserved c app has =
    let added =
    c.with_argument-command.ensures (with_rows app (take c.loop-row.row-index c.args.rows.now)) _
    (c.loop-row.invariant app has) c.summary.ensures.rule c.summary.ensures.local in
    subst (λ (made : App). IfOk c.with_argument-command.result (IsWithoutGlobals made))
    (sym (fold_more with_row app c.args.rows.now c.loop-row.row-index _ c.loop-row-test.true))
    added
