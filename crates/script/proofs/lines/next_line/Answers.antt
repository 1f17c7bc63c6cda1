use Rattle.std.proofs.Common.{◌+◌, arith}
use Rattle.std.proofs.lemmas.List.{take_rest}
use Rattle.script.proofs.Parts.{lines_first}
use Rattle.script.proofs.lines.next_line.Goals as goal

pub returns-clause-first : goal.returns-clause-first
returns-clause-first c =
    rw (
      c.without_return.ensures,
      take_rest c.args.text.now (c.place_of-end.result + 1),
      c.place_of-end.ensures.value,
    ) (lines_first c.args.text.now (omega arith))
