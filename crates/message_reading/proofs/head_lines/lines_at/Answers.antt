use Rattle.std.proofs.Common.{arith, rules}
use Rattle.std.proofs.lemmas.Grind.{common_steps}
use Rattle.message_reading.proofs.head_lines.lines_at.Goals as goal

pub returns-in_err-lines : goal.returns-in_err-lines
returns-in_err-lines c = search rules

pub loop-at-init : goal.loop-at-init
loop-at-init c = search rules

pub returns-in_err-line_at : goal.returns-in_err-line_at
returns-in_err-line_at c = search rules

pub push_reserved-requires : goal.push_reserved-requires
push_reserved-requires c = grind (arith, common_steps)

pub loop-at-smaller : goal.loop-at-smaller
loop-at-smaller c = search rules

pub loop-at-preserved : goal.loop-at-preserved
loop-at-preserved c = record {
  copied = grind (arith, common_steps);
  len = grind (arith, common_steps);
  room = grind (arith, common_steps);
}

pub returns : goal.returns
returns c = grind (arith, common_steps)
