use Rattle.std.proofs.Common.{sym, ◌∙◌, map}
use Rattle.gate_config.specs.Text.{string_of}
use Rattle.gate_config.specs.ClassRows.{class_row, is_class}
use Rattle.gate_config.proofs.TableMembers.{all_values}
use Rattle.gate_config.proofs.resolver.are_classes.Goals as goal

pub returns : goal.returns
returns c =
    c.have_classes.ensures
    ∙ sym (all_values (λ value. is_class (map class_row c.args.classes.now) (string_of value))
    c.args.routes.now)
