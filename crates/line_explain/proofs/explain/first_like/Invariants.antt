use Rattle.std.proofs.Common.{length}
use Rattle.line_explain.proofs.explain.first_like.Given as goal

abbrev pub decreases-loop-line : goal.decreases-loop-line
decreases-loop-line l = length l.rest
