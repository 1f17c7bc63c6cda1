-- A whole configuration: its tables, each with the values of its keys or what they make.
use Rattle.std.specs.declared.alloc.Global.{Global}
use Rattle.std.specs.BTreeMap.{BTreeMap}
use Rattle.std.specs.Borrow.{Bor}
use Rattle.std.specs.Prelude.{ℕ, List, [], map, Option, Some, None, option_map, Result, Ok, String, codes}
use Rattle.toml.specs.declared.value.Value.{Value}
use Rattle.toml.specs.Data.{Members, get_member}
use Rattle.toml.specs.View.{table_view}
use Rattle.arrayvec.specs.ArrayVec.{ArrayVec}
use Rattle.partitions.specs.Table.{Row}
use Rattle.windowed.specs.declared.numbers.WindowNumbers.{WindowNumbers}
use Rattle.limit_kinds.specs.declared.kinds.LimitSpec.{LimitSpec}
use Rattle.gate_config.specs.declared.fault.ConfigFault.{ConfigFault}
use Rattle.gate_config.specs.declared.key.Key.TheVariants as Key
use Rattle.gate_config.specs.Outcomes.{◌>>=◌}
use Rattle.gate_config.specs.Table.{optional_from, table_from, tables_among, tables_from}
use Rattle.gate_config.specs.declared.class.ClassKeys.{ClassKeys}
use Rattle.gate_config.specs.declared.version.Version.{Version}
use Rattle.gate_config.specs.Bypass.{bypass_after, bypass_member}
use Rattle.gate_config.specs.Class.{classes_of}
use Rattle.gate_config.specs.ClassRows.{class_row}
use Rattle.gate_config.specs.Limit.{limit_in}
use Rattle.gate_config.specs.Resolver.{resolver_after, resolver_member}
use Rattle.gate_config.specs.Rows.{top_rows}
use Rattle.gate_config.specs.Section.{Values, number_at, read_each, section_values}
use Rattle.gate_config.specs.Top.{top_values}
use Rattle.gate_config.specs.Window.{window_in}
use Rattle.gate_config.specs.declared.document.Document.{Document}
use Rattle.gate_config.specs.declared.document.RuleKeys.{RuleKeys}

-- what a configuration holds
pub record DocumentValues : Type 0 where
  pub top : Values
  pub limit : Members × LimitSpec
  pub window : Option (Members × WindowNumbers)
  pub classes : List Members × List Row
  pub resolvers : List (Members × Values)
  pub bypasses : List (Members × Values)

-- a reference to a table of the text
abbrev pub TableRef : Type 0
TableRef = Bor (BTreeMap (String Global) Value)

abbrev pub limit_member : TableRef × LimitSpec → Members × LimitSpec
limit_member member = (table_view member.0.now, member.1)

abbrev pub window_member : TableRef × WindowNumbers → Members × WindowNumbers
window_member member = (table_view member.0.now, member.1)

abbrev pub tables_and_rows : Bor (List Value) × ArrayVec ClassKeys → List Members × List Row
tables_and_rows classes = (tables_among classes.0.now, map class_row classes.1.items)

-- the classes, the resolvers and the bypass rules
pub record RuleValues : Type 0 where
  pub classes : List Members × List Row
  pub resolvers : List (Members × Values)
  pub bypasses : List (Members × Values)

abbrev pub rule_values : RuleKeys → RuleValues
rule_values r = record {
  classes = tables_and_rows r.classes;
  resolvers = map resolver_member r.resolvers.items;
  bypasses = map bypass_member r.bypasses.items;
}

abbrev pub document_values : Document → DocumentValues
document_values d = record {
  top = top_values d.top;
  limit = limit_member d.limit;
  window = option_map window_member d.window;
  classes = tables_and_rows d.rules.classes;
  resolvers = map resolver_member d.rules.resolvers.items;
  bypasses = map bypass_member d.rules.bypasses.items;
}

-- the table `limit` and the limit of its keys in a version
abbrev pub limit_of : Version → Members → Result (Members × LimitSpec) ConfigFault
limit_of version t = table_from Key.Limit (get_member (codes "limit") t) >>= λ limit.
    limit_in version limit >>= λ spec. Ok (limit, spec)

-- the windows of a table's keys, where there is one
abbrev pub read_window : Option Members → Result (Option (Members × WindowNumbers)) ConfigFault
read_window None = Ok None
read_window (Some window) = window_in window >>= λ numbers. Ok (Some (window, numbers))

abbrev pub window_of : Members → Result (Option (Members × WindowNumbers)) ConfigFault
window_of t = optional_from Key.Window (get_member (codes "window") t) >>= read_window

-- the classes in a version, behind the number of `backlog`: at most four tables, each read behind
-- those before it
abbrev pub classes_in : Version → ℕ → Members → Result (List Members × List Row) ConfigFault
classes_in version backlog t = tables_from Key.Class 4 (get_member (codes "class") t) >>= λ tables.
    classes_of version backlog tables >>= λ classes. Ok (tables, classes)

-- the resolvers among these classes, at most 32
abbrev pub resolvers_of : List Row → Members → Result (List (Members × Values)) ConfigFault
resolvers_of classes t =
    tables_from Key.Resolver 32 (get_member (codes "resolver") t)
    >>= read_each (resolver_after classes) []

-- the bypass rules, at most 32
abbrev pub bypasses_of : Members → Result (List (Members × Values)) ConfigFault
bypasses_of t =
    tables_from Key.Bypass 32 (get_member (codes "bypass") t) >>= read_each bypass_after []

-- the keys of the three arrays in a version, behind the number of `backlog`, in the order of the
-- rows
abbrev pub rules_of : Version → ℕ → Members → Result RuleValues ConfigFault
rules_of version backlog t =
    classes_in version backlog t >>= λ classes.
    resolvers_of classes.1 t >>= λ resolvers.
    bypasses_of t >>= λ bypasses.
    Ok (record { classes = classes; resolvers = resolvers; bypasses = bypasses })

-- every key in a version, in the order of the rows
abbrev pub document_of : Version → Members → Result DocumentValues ConfigFault
document_of version t =
    section_values [] (top_rows version) t >>= λ top.
    limit_of version t >>= λ limit.
    window_of t >>= λ window.
    classes_in version (number_at (codes "backlog") top) t >>= λ classes.
    resolvers_of classes.1 t >>= λ resolvers.
    bypasses_of t >>= λ bypasses.
    Ok (record {
      top = top;
      limit = limit;
      window = window;
      classes = classes;
      resolvers = resolvers;
      bypasses = bypasses;
    })
