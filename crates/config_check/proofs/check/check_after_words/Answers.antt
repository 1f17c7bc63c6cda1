use Rattle.std.proofs.Common.{rules}
use Rattle.config_explain.specs.Lacking.{HasLacked}
use Rattle.config_check.proofs.BehindWords.{accepted_behind, why_behind}
use Rattle.config_check.proofs.check.check_after_words.Goals as goal

-- the words are those that were written before the bytes were checked
pub returns-in-Ok-clause-accepted : goal.returns-in-Ok-clause-accepted
returns-in-Ok-clause-accepted g c =
    let words = c.in-Ok.ensures.all in
    accepted_behind c.args.exchanges
    (HasLacked c.args.explainer.now c.write_explanation.new.explainer)
    g.W.Write.contents c.args.writer.now c.write_explanation.new.writer
    c.check_bytes.new.writer words.0 c.args.bytes.now c.check_bytes.result words.1 words.2
    c.check_bytes.ensures.accepted

pub returns-in-Ok-clause-refused : goal.returns-in-Ok-clause-refused
returns-in-Ok-clause-refused g c =
    let words = c.in-Ok.ensures.all in
    why_behind c.args.exchanges (HasLacked c.args.explainer.now c.write_explanation.new.explainer)
    g.W.Write.contents c.args.writer.now c.write_explanation.new.writer
    c.check_bytes.new.writer words.0 c.args.bytes.now c.check_bytes.result words.1 words.2
    c.check_bytes.ensures.refused

pub returns-in-Err-clause-accepted : goal.returns-in-Err-clause-accepted
returns-in-Err-clause-accepted c = search rules

pub returns-in-Err-clause-refused : goal.returns-in-Err-clause-refused
returns-in-Err-clause-refused c = search rules
