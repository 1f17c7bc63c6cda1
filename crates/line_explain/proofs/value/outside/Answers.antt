use Rattle.std.proofs.Common.{◌∙◌}
use Rattle.script.specs.Words.{words}
use Rattle.script.specs.Forms.{wanted_at}
use Rattle.line_explain.specs.Outside.{is_within}
use Rattle.line_explain.proofs.Reaching.{reaches}
use Rattle.line_explain.proofs.value.outside.Goals as goal

pub returns : goal.returns
returns c =
    c.count_within.ensures
    ∙ reaches (is_within (words c.args.line.now)) wanted_at (words c.args.line.now) c.args.form.now
