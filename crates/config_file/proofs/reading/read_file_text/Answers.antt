use Rattle.std.proofs.Common.{ap, rules}
use Rattle.counted_io.specs.Counted.{calls_of, failures_of, inner_of}
use Rattle.config_file.proofs.reading.read_file_text.Goals as goal

-- the file is the one that was opened, before its first read and after its last
pub returns-in-Ok-read_text-clause-text : goal.returns-in-Ok-read_text-clause-text
returns-in-Ok-read_text-clause-text g c =
    let reader = c.new-reader.result in
    let opened : g.F.Opener.opened c.args.path.now (inner_of reader) = search rules in (
      c.new-reader.result,
      c.read_text.new.reader,
      opened,
      c.in-Ok-read_text.ensures.text,
      c.in-Ok-read_text.ensures.unfailing,
    )

-- and so is that of the reader which is told, as it was made
pub returns-in-Err-read_text-clause-refused : goal.returns-in-Err-read_text-clause-refused
returns-in-Err-read_text-clause-refused g c =
    let opened : g.F.Opener.opened c.args.path.now (inner_of c.new-reader.result) = search rules in
    let made = c.new-reader.ensures in (
      c.new-reader.result,
      (opened, ap calls_of made, ap failures_of made),
      c.in-Err-read_text.ensures.refused,
    )
