use Rattle.std.proofs.Common.{rules, subst}
use Rattle.std.specs.Io.KnownBytes.{Appends}
use Rattle.fault_lines.proofs.Pieces.{appends_piece}
use Rattle.fault_lines.proofs.fault_line.write_pieces.Goals as goal

pub loop-piece-preserved : goal.loop-piece-preserved
loop-piece-preserved g c = record {
  written = appends_piece (λ piece. piece.now) _ _ _ c.args.pieces.now c.loop-piece.piece-index _
      (search rules) c.loop-piece.invariant.written
      (subst (Appends _ _) c.as_bytes.ensures.value c.in_ok-write_all.ensures.all);
  failures = search rules;
}

pub loop-piece-init : goal.loop-piece-init
loop-piece-init c = search rules

pub returns-in_err-write_all-clause-failed : goal.returns-in_err-write_all-clause-failed
returns-in_err-write_all-clause-failed c = search rules

pub returns-clause-unfailing : goal.returns-clause-unfailing
returns-clause-unfailing c = search rules

pub returns-in_err-write_all-clause-all : goal.returns-in_err-write_all-clause-all
returns-in_err-write_all-clause-all g c = search rules

pub returns-in_err-write_all-clause-unfailing : goal.returns-in_err-write_all-clause-unfailing
returns-in_err-write_all-clause-unfailing g c = search rules

pub returns-clause-failed : goal.returns-clause-failed
returns-clause-failed g c = search rules
