use Rattle.std.proofs.Common.{sym, ◌∙◌, is_some}
use Rattle.toml.specs.Data.{as_table}
use Rattle.toml.specs.View.{view}
use Rattle.gate_config.proofs.MappedLists.{list_all_map}
use Rattle.gate_config.proofs.table.are_tables.Goals as goal

pub returns : goal.returns
returns c =
    c.have_tables.ensures
    ∙ sym (list_all_map (λ item. is_some (as_table item)) view c.args.items.now)
