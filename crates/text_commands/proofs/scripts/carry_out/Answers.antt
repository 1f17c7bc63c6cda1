use Rattle.std.proofs.Common.{sym, subst, None, IfErr, OnOk}
use Rattle.counted_io.specs.Effects.{IfLeft, Wrote}
use Rattle.commands.specs.declared.command_line.TextTask.{TextTask}
use Rattle.text_commands.specs.Scripts.{IsAnswerOf, IsStop}
use Rattle.text_commands.proofs.Stops.{simulation_stops}
use Rattle.text_commands.proofs.scripts.carry_out.Goals as goal

pub returns-in-Simulate-clause-done : goal.returns-in-Simulate-clause-done
returns-in-Simulate-clause-done g c =
    subst
    (λ (task : TextTask). OnOk c.simulate.result (IfLeft g.R.Read.remaining c.args.reader.now
    (λ text. IsAnswerOf task text None
    (Wrote g.W.Write.contents c.args.writer.now c.simulate.new.writer))))
    (sym c.in-Simulate.is) c.simulate.ensures.ok

pub returns-in-Simulate-clause-stopped : goal.returns-in-Simulate-clause-stopped
returns-in-Simulate-clause-stopped g c =
    let of = c.simulate.ensures in
    subst
    (λ (task : TextTask). IfErr c.simulate.result (IsStop g.R.Read.remaining g.W.Write.contents task
    c.args.reader.now c.simulate.new.reader c.args.writer.now c.simulate.new.writer))
    (sym c.in-Simulate.is)
    (simulation_stops g.R.Read.remaining g.W.Write.contents c.in-Simulate.limit c.simulate.result
    c.args.reader.now c.simulate.new.reader c.args.writer.now c.simulate.new.writer of.line
    of.flushed of.memory of.read of.too_large of.write of.only_read_fails of.only_write_fails
    of.memory_writes_nothing of.read_writes_nothing of.too_large_writes_nothing)
