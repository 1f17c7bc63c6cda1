use Rattle.std.proofs.Common.{◌∙◌}
use Rattle.script.specs.Words.{words}
use Rattle.script.specs.Forms.{fits, wanted_at}
use Rattle.line_explain.proofs.Reaching.{reaches}
use Rattle.line_explain.proofs.fitting.reach.Goals as goal

pub returns : goal.returns
returns c =
    c.count_fitting.ensures ∙ reaches fits wanted_at (words c.args.line.now) c.args.form.now
