use Rattle.std.proofs.Common.{rules}
use Rattle.commands.proofs.mistakes.mistake_in.Goals as goal

pub returns-in_default : goal.returns-in_default
returns-in_default c = search rules

pub loop-row-init : goal.loop-row-init
loop-row-init c = search rules

pub returns-in-Some-wrong_text : goal.returns-in-Some-wrong_text
returns-in-Some-wrong_text c = search rules

pub loop-row-smaller : goal.loop-row-smaller
loop-row-smaller c = search rules

pub loop-row-preserved : goal.loop-row-preserved
loop-row-preserved c = search rules

pub returns-then-gives_both : goal.returns-then-gives_both
returns-then-gives_both c = search rules

pub returns-else-gives_both : goal.returns-else-gives_both
returns-else-gives_both c = search rules
