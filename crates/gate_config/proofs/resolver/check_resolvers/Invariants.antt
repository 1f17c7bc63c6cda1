use Rattle.std.proofs.Common.{◌≡◌, ◌≤◌, List, [], drop, length, map}
use Rattle.toml.specs.Data.{Members}
use Rattle.gate_config.specs.Table.{tables_among}
use Rattle.gate_config.specs.ClassRows.{class_row}
use Rattle.gate_config.specs.Resolver.{resolver_after}
use Rattle.gate_config.specs.Section.{Values, read_each}
use Rattle.gate_config.proofs.resolver.check_resolvers.Given as goal

-- what was read so far, at most one an item, and what of the items to come
abbrev pub invariant-loop-item : goal.invariant-loop-item
invariant-loop-item l =
    (done : List (Members × Values)) × (length done ≡ l.place) × (l.place ≤ l.item-index)
    × (read_each (resolver_after (map class_row l.classes)) [] (tables_among l.items)
    ≡ read_each (resolver_after (map class_row l.classes)) done
    (tables_among (drop l.item-index l.items)))
