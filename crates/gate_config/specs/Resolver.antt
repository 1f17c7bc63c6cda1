-- The resolvers of a configuration.
use Rattle.std.specs.declared.alloc.Global.{Global}
use Rattle.std.specs.BTreeMap.{BTreeMap}
use Rattle.std.specs.Borrow.{Bor}
use Rattle.std.specs.Prelude.{ℕ, List, [], ◌∷◌, length, String, Result, Ok, codes}
use Rattle.toml.specs.declared.value.Value.{Value}
use Rattle.toml.specs.Data.{Members}
use Rattle.toml.specs.View.{table_view}
use Rattle.partitions.specs.Table.{Row}
use Rattle.gate_config.specs.declared.fault.ConfigFault.{ConfigFault}
use Rattle.gate_config.specs.Outcomes.{of_member, ◌>>=◌}
use Rattle.gate_config.specs.declared.resolver.ResolverKeys.{ResolverKeys}
use Rattle.gate_config.specs.declared.resolver.ResolverKeys.TheVariants as Keys
use Rattle.gate_config.specs.declared.resolver.ResolverKind.{ResolverKind}
use Rattle.gate_config.specs.declared.resolver.ResolverKind.TheVariants as Kind
use Rattle.gate_config.specs.Routes.{routes_of}
use Rattle.gate_config.specs.Rows.{resolver_rows}
use Rattle.gate_config.specs.Section.{Values, routes_are, section_values, text_is}

-- the word of a kind
abbrev pub resolver_word : ResolverKind → List ℕ
resolver_word Kind.Header = codes "header"
resolver_word Kind.Method = codes "method"
resolver_word Kind.Route = codes "route"

-- the keys as values
abbrev pub resolver_values : ResolverKeys → Values
resolver_values (Keys.Header name) =
    (codes "kind", text_is (codes "header")) ∷ (codes "header", text_is name.now) ∷ []
resolver_values (Keys.Method method class) =
    (codes "kind", text_is (codes "method")) ∷ (codes "method", text_is method.now)
    ∷ (codes "class", text_is class.now) ∷ []
resolver_values (Keys.Route routes) =
    (codes "kind", text_is (codes "route"))
    ∷ (codes "routes", routes_are (routes_of (table_view routes.now))) ∷ []

-- a resolver's table, and its keys as values
abbrev pub resolver_member : Bor (BTreeMap (String Global) Value) × ResolverKeys → Members × Values
resolver_member member = (table_view member.0.now, resolver_values member.1)

-- a resolver among these classes, with its table
abbrev pub resolver_after : List Row → List (Members × Values) → Members →
    Result (Members × Values) ConfigFault
resolver_after classes before t =
    of_member (length before) (section_values classes resolver_rows t)
    >>= λ values. Ok (t, values)
