use Rattle.std.proofs.Common.{rules, tests, ◌∙◌, eqb}
use Rattle.std.specs.Prelude.{bytes_eq}
use Rattle.std.specs.List.{slice_split}
use Rattle.std.proofs.lemmas.Iterator.Search.{all_from_yields_List}
use Rattle.std.proofs.lemmas.Iterator.Splits.{YieldsList-from_slice_split}
use Rattle.message_fields.specs.Parts.{trimmed}
use Rattle.message_fields.proofs.ListTests.{list_all-map}
use Rattle.message_fields.proofs.parts.is_every_part.Goals as goal

pub returns : goal.returns
returns c =
    all_from_yields_List (λ text. bytes_eq c.args.part.now (trimmed text)) _ _ _ c.all.ensures.ran
    (YieldsList-from_slice_split _ (λ b. eqb b 44) c.args.value.now
    c.split.ensures.rest c.split.ensures.done c.split.ensures.closure
    (λ x r q k. search (rules, tests)))
    (λ x b q k. search (rules, tests))
    ∙ list_all-map (bytes_eq c.args.part.now) trimmed (slice_split (λ b. eqb b 44) c.args.value.now)
