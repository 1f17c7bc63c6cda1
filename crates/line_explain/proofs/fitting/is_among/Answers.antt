use Rattle.std.proofs.Common.{◌∙◌, rules, tests, bytes_eq}
use Rattle.std.proofs.lemmas.Iterator.{YieldsList-from_slice}
use Rattle.std.proofs.lemmas.Iterator.Search.{any_from_yields_List}
use Rattle.lemmas.proofs.Tests.{list_any-map}
use Rattle.line_explain.proofs.fitting.is_among.Goals as goal

pub returns : goal.returns
returns c =
    any_from_yields_List (λ wanted. bytes_eq c.args.word.now wanted.now) _ _ _ c.any.ensures.ran
    (YieldsList-from_slice c.args.words.now cc) (λ x b q k. search (rules, tests))
    ∙ list_any-map (bytes_eq c.args.word.now) (λ wanted. wanted.now) c.args.words.now
