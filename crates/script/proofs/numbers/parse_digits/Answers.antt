use Rattle.std.proofs.Common.{◌∙◌}
use Rattle.lemmas.proofs.Digits.{parsed}
use Rattle.script.proofs.numbers.parse_digits.Goals as goal

pub returns : goal.returns
returns c =
    c.ok.ensures.value ∙ parsed 64 c.args.text.now c.parse.result c.parse.ensures.value.0 c.requires
