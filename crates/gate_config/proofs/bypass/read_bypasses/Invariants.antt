use Rattle.std.proofs.Common.{◌≡◌, [], drop, map}
use Rattle.gate_config.specs.Table.{tables_among}
use Rattle.gate_config.specs.Bypass.{bypass_after, bypass_member}
use Rattle.gate_config.specs.Section.{read_each}
use Rattle.gate_config.proofs.bypass.read_bypasses.Given as goal

-- those so far, and those of the items to come
abbrev pub invariant-loop-item : goal.invariant-loop-item
invariant-loop-item l =
    read_each bypass_after [] (tables_among l.items)
    ≡ read_each bypass_after (map bypass_member l.rules.items)
    (tables_among (drop l.item-index l.items))
