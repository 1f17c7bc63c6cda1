use Rattle.tasks.specs.Refused.{refused_of}
use Rattle.text_commands.proofs.LoadStops.{load_stops}
use Rattle.text_commands.proofs.loads.carry_out.Goals as goal

pub returns-clause-stopped : goal.returns-clause-stopped
returns-clause-stopped g c =
    let of = c.load.ensures in
    load_stops g.R.Read.remaining c.args.workers c.args.limit (refused_of c.args.spawner.now)
    (refused_of c.load.new.spawner) c.load.result c.args.reader.now c.load.new.reader
    c.args.writer.now c.load.new.writer of.line of.audit of.memory of.thread of.lacking of.read
    of.too_large of.write of.only_read_fails of.only_write_fails of.writes_nothing
