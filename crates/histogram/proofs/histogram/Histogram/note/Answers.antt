use Rattle.std.proofs.Common.{rules}
use Rattle.histogram.proofs.Histograms.{histogram_more}
use Rattle.histogram.proofs.histogram.Histogram.note.Goals as goal

pub returns : goal.returns
returns c = λ times of.
    histogram_more _ _ times c.args.time of c.note_in.ensures (search rules) (search rules)
