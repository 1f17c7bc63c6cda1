use Rattle.std.proofs.Common.{◌∙◌}
use Rattle.lemmas.proofs.Digits.{parsed}
use Rattle.operator_calls.proofs.number.parse_digits.Goals as goal

pub returns : goal.returns
returns c =
    c.ok.ensures.value ∙ parsed 32 c.args.text.now c.parse.result c.parse.ensures.value.0 c.requires
