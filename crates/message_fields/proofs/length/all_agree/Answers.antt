use Rattle.std.proofs.Common.{rules, tests, ◌∙◌}
use Rattle.std.specs.Prelude.{bytes_eq, codes, not, ◌||◌}
use Rattle.std.specs.List.{list_all}
use Rattle.std.proofs.lemmas.Iterator.{YieldsList-from_slice}
use Rattle.std.proofs.lemmas.Iterator.Search.{all_from_yields_List}
use Rattle.message_fields.specs.Lines.{is_named}
use Rattle.message_fields.specs.Parts.{parts}
use Rattle.message_fields.proofs.ListTests.{list_all-chosen}
use Rattle.message_fields.proofs.length.all_agree.Goals as goal

pub returns : goal.returns
returns c =
    all_from_yields_List (λ line. not (is_named (codes "content-length") line)
    || list_all (bytes_eq c.args.part.now) (parts line.value)) _ _ _ c.all.ensures.ran
    (YieldsList-from_slice c.args.lines.now cc) (λ x b q k. search (rules, tests))
    ∙ list_all-chosen (bytes_eq c.args.part.now) (λ line. parts line.value)
    (is_named (codes "content-length")) c.args.lines.now
