use Rattle.std.proofs.Common.{◌≡◌, ◌+◌, ◌≤◌, drop, length, map}
use Rattle.gate_config.specs.Table.{tables_among}
use Rattle.gate_config.specs.Class.{class_after, classes_of}
use Rattle.gate_config.specs.ClassRows.{class_row}
use Rattle.gate_config.specs.Section.{read_each}
use Rattle.gate_config.proofs.Places.{places_sum}
use Rattle.gate_config.proofs.class.read_classes.Given as goal

-- the classes so far, at most one an item, with so many places, and those of the tables to come
abbrev pub invariant-loop-item : goal.invariant-loop-item
invariant-loop-item l = record {
  few : length l.classes.items ≤ l.item-index;
  within : l.backlog + places_sum (map class_row l.classes.items) ≤ 10000;
  said : classes_of l.version l.backlog (tables_among l.items)
      ≡ read_each (class_after l.version l.backlog) (map class_row l.classes.items)
      (tables_among (drop l.item-index l.items));
}
