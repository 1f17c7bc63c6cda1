use Rattle.std.proofs.Common.{rules, tests, ◌∙◌}
use Rattle.std.specs.Prelude.{codes}
use Rattle.std.proofs.lemmas.Iterator.{YieldsList-from_slice}
use Rattle.std.proofs.lemmas.Iterator.Search.{any_from_yields_List}
use Rattle.message_fields.specs.Lines.{is_named}
use Rattle.message_fields.proofs.ListTests.{any_counted}
use Rattle.message_fields.proofs.lines.has_host.Goals as goal

pub returns : goal.returns
returns c =
    any_from_yields_List (is_named (codes "host")) _ _ _ c.any.ensures.ran
    (YieldsList-from_slice c.args.lines.now cc) (λ x b q k. search (rules, tests))
    ∙ any_counted (is_named (codes "host")) c.args.lines.now
