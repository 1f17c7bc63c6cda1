use Rattle.std.proofs.Common.{rules, tests, ◌∙◌, eqb}
use Rattle.std.specs.List.{slice_split}
use Rattle.std.proofs.lemmas.Iterator.Search.{any_from_yields_List}
use Rattle.std.proofs.lemmas.Iterator.Splits.{YieldsList-from_slice_split}
use Rattle.message_parts.specs.Names.{same_name}
use Rattle.message_fields.specs.Parts.{trimmed}
use Rattle.lemmas.proofs.Tests.{list_any-map}
use Rattle.message_fields.proofs.parts.has_part.Goals as goal

pub returns : goal.returns
returns c =
    any_from_yields_List (λ text. same_name (trimmed text) c.args.name.now) _ _ _ c.any.ensures.ran
    (YieldsList-from_slice_split _ (λ b. eqb b 44) c.args.value.now
    c.split.ensures.rest c.split.ensures.done c.split.ensures.closure
    (λ x r q k. search (rules, tests)))
    (λ x b q k. search (rules, tests))
    ∙ list_any-map (λ part. same_name part c.args.name.now) trimmed
    (slice_split (λ b. eqb b 44) c.args.value.now)
