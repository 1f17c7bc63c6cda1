use Rattle.std.proofs.Common.{sym, ◌∙◌, bytes_eq}
use Rattle.gate_config.specs.ClassRows.{class_row}
use Rattle.gate_config.proofs.MappedLists.{list_any_map}
use Rattle.gate_config.proofs.class.is_class.Goals as goal

pub returns : goal.returns
returns c =
    c.has_name.ensures
    ∙ sym (list_any_map (λ row. bytes_eq row.name c.args.name.now) class_row c.args.classes.now)
