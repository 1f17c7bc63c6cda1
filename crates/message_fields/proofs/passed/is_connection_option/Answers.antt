use Rattle.std.proofs.Common.{rules, tests, ◌∙◌}
use Rattle.std.specs.Prelude.{codes, ◌&&◌}
use Rattle.std.specs.List.{list_any}
use Rattle.std.proofs.lemmas.Iterator.{YieldsList-from_slice}
use Rattle.std.proofs.lemmas.Iterator.Search.{any_from_yields_List}
use Rattle.message_parts.specs.Names.{same_name}
use Rattle.message_fields.specs.Lines.{is_named}
use Rattle.message_fields.specs.Parts.{parts}
use Rattle.message_fields.proofs.ListTests.{list_any-chosen}
use Rattle.message_fields.proofs.passed.is_connection_option.Goals as goal

pub returns : goal.returns
returns c =
    any_from_yields_List (λ line. is_named (codes "connection") line
    && list_any (λ part. same_name part c.args.name.now) (parts line.value)) _ _ _
    c.any.ensures.ran
    (YieldsList-from_slice c.args.lines.now cc) (λ x b q k. search (rules, tests))
    ∙ list_any-chosen (λ part. same_name part c.args.name.now) (λ line. parts line.value)
    (is_named (codes "connection")) c.args.lines.now
