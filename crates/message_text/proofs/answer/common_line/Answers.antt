use Rattle.std.proofs.Common.{◌∙◌, sym, ap}
use Rattle.message_text.specs.Answer.{status_text}
use Rattle.message_text.proofs.Commonest.{line_200, line_204, line_302, line_304, line_404, line_429}
use Rattle.message_text.proofs.answer.common_line.Goals as goal

pub returns-in-200 : goal.returns-in-200
returns-in-200 c = line_200 ∙ sym (ap status_text c.in-200.is)

pub returns-in-204 : goal.returns-in-204
returns-in-204 c = line_204 ∙ sym (ap status_text c.in-204.is)

pub returns-in-302 : goal.returns-in-302
returns-in-302 c = line_302 ∙ sym (ap status_text c.in-302.is)

pub returns-in-304 : goal.returns-in-304
returns-in-304 c = line_304 ∙ sym (ap status_text c.in-304.is)

pub returns-in-404 : goal.returns-in-404
returns-in-404 c = line_404 ∙ sym (ap status_text c.in-404.is)

pub returns-in-429 : goal.returns-in-429
returns-in-429 c = line_429 ∙ sym (ap status_text c.in-429.is)
