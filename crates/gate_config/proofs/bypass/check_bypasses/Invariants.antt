use Rattle.std.proofs.Common.{◌≡◌, ◌≤◌, List, [], drop, length}
use Rattle.toml.specs.Data.{Members}
use Rattle.gate_config.specs.Table.{tables_among}
use Rattle.gate_config.specs.Bypass.{bypass_after}
use Rattle.gate_config.specs.Section.{Values, read_each}
use Rattle.gate_config.proofs.bypass.check_bypasses.Given as goal

-- what was read so far, at most one an item, and what of the items to come
abbrev pub invariant-loop-item : goal.invariant-loop-item
invariant-loop-item l =
    (done : List (Members × Values)) × (length done ≡ l.place) × (l.place ≤ l.item-index)
    × (read_each bypass_after [] (tables_among l.items)
    ≡ read_each bypass_after done
    (tables_among (drop l.item-index l.items)))
