use Rattle.std.proofs.Common.{rules, codes, map}
use Rattle.std.specs.List.{concat}
use Rattle.fault_lines.specs.FaultLine.{line}
use Rattle.fault_lines.proofs.Pieces.{told_after}
use Rattle.fault_lines.proofs.fault_line.tell_line.Goals as goal

-- the program's name was written, and then the rest of the line or the writer failed
pub returns : goal.returns
returns g c = record {
  told = told_after g.E.Write.contents c.args.errors.now c.write_all.new.writer
      c.write_line.new.writer c.write_line.result (codes "admission: ")
      (line (concat (map (λ piece. piece.now) c.args.pieces.now)))
      c.in_ok-write_all.ensures.all c.in_ok-write_all.ensures.unfailing
      c.write_line.ensures.all c.write_line.ensures.flushed c.write_line.ensures.failed;
}

pub returns-in_err-write_all : goal.returns-in_err-write_all
returns-in_err-write_all c = search rules
