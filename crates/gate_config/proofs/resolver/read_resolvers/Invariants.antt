use Rattle.std.proofs.Common.{◌≡◌, [], drop, map}
use Rattle.gate_config.specs.Table.{tables_among}
use Rattle.gate_config.specs.ClassRows.{class_row}
use Rattle.gate_config.specs.Resolver.{resolver_after, resolver_member}
use Rattle.gate_config.specs.Section.{read_each}
use Rattle.gate_config.proofs.resolver.read_resolvers.Given as goal

-- those so far, and those of the items to come
abbrev pub invariant-loop-item : goal.invariant-loop-item
invariant-loop-item l =
    read_each (resolver_after (map class_row l.classes)) [] (tables_among l.items)
    ≡ read_each (resolver_after (map class_row l.classes)) (map resolver_member l.resolvers.items)
    (tables_among (drop l.item-index l.items))
