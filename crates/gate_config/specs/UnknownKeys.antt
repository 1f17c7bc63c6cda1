-- The keys of a configuration that aren't allowed where they stand.
use Rattle.std.specs.Prelude.{ℕ, List, [], ◌∷◌, ◌++◌, map, flat_map, Option, Some, None}
use Rattle.toml.specs.Data.{Members}
use Rattle.windowed.specs.declared.numbers.WindowNumbers.{WindowNumbers}
use Rattle.limit_kinds.specs.declared.kinds.LimitSpec.{LimitSpec}
use Rattle.limit_kinds.specs.declared.kinds.LimitSpec.TheVariants.{Auto}
use Rattle.gate_config.specs.declared.key.Key.{Key}
use Rattle.gate_config.specs.declared.key.Section.TheVariants as In
use Rattle.gate_config.specs.Rows.{name_of}
use Rattle.gate_config.specs.Unknown.{UnknownKey, unknown_keys_in}
use Rattle.gate_config.specs.declared.version.Version.{Version}
use Rattle.gate_config.specs.Limit.{limit_names}
use Rattle.gate_config.specs.Rows.{bypass_rows, class_rows, resolver_rows, top_rows, window_rows}
use Rattle.gate_config.specs.Section.{Values, names_of}
use Rattle.gate_config.specs.Document.{DocumentValues}

-- the table of windows, which a limit may have but for one without numbers: that has its own
abbrev pub window_keys : LimitSpec → List Key
window_keys (Auto n) = []
window_keys _ = Key.Window ∷ []

-- the keys that no section holds: the version, those of the rows, and those of the tables
abbrev pub top_names : Version → LimitSpec → List (List ℕ)
top_names version spec =
    map name_of (Key.Version ∷ map (λ row. row.key) (top_rows version)
    ++ Key.Limit ∷ window_keys spec ++ Key.Class ∷ Key.Resolver ∷ Key.Bypass ∷ [])

abbrev pub window_unknown_keys : Option (Members × WindowNumbers) → List UnknownKey
window_unknown_keys None = []
window_unknown_keys (Some window) =
    unknown_keys_in In.Window (map (λ row. name_of row.key) window_rows) window.0

abbrev pub class_unknown_keys : Version → Members → List UnknownKey
class_unknown_keys version t =
    unknown_keys_in In.Class (map (λ row. name_of row.key) (class_rows version)) t

abbrev pub resolver_unknown_keys : Members × Values → List UnknownKey
resolver_unknown_keys r = unknown_keys_in In.Resolver (names_of resolver_rows r.1) r.0

abbrev pub bypass_unknown_keys : Members × Values → List UnknownKey
bypass_unknown_keys b = unknown_keys_in In.Bypass (names_of bypass_rows b.1) b.0

-- all of them, in a version
abbrev pub unknown_keys_of : Version → Members → DocumentValues → List UnknownKey
unknown_keys_of version t d =
    unknown_keys_in In.Top (top_names version d.limit.1) t
    ++ unknown_keys_in In.Limit (limit_names d.limit.1) d.limit.0
    ++ window_unknown_keys d.window ++ flat_map (class_unknown_keys version) d.classes.0
    ++ flat_map resolver_unknown_keys d.resolvers ++ flat_map bypass_unknown_keys d.bypasses
