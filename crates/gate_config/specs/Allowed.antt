-- The keys that may stand in a section, as code lists them.
use Rattle.std.specs.Prelude.{Bool, true, false, List, [], ◌∷◌, ◌++◌, map, filter}
use Rattle.gate_config.specs.declared.allowed.AllowedKeys.{AllowedKeys}
use Rattle.gate_config.specs.declared.allowed.AllowedKeys.TheVariants.{Listed, Top}
use Rattle.gate_config.specs.declared.key.Key.{Key}
use Rattle.gate_config.specs.declared.version.Version.{Version}
use Rattle.gate_config.specs.declared.version.Version.TheVariants.{One, Two}
use Rattle.gate_config.specs.Rows.{top_rows}

-- the keys outside all tables, of each version and beside each limit
abbrev pub top_keys : List Key
top_keys =
    Key.Version ∷ map (λ row. row.key) (top_rows Two)
    ++ Key.Limit ∷ Key.Window ∷ Key.Class ∷ Key.Resolver ∷ Key.Bypass ∷ []

-- the keys among which those stand that are allowed
abbrev pub listed_keys : AllowedKeys → List Key
listed_keys (Listed keys) = keys.now
listed_keys (Top version windows) = top_keys

-- version 1 has no keys of connections that are kept and of bodies that are held
abbrev pub is_of_version : Version → Key → Bool
is_of_version One Key.Clients = false
is_of_version One Key.ClientIdleMs = false
is_of_version One Key.Backends = false
is_of_version One Key.BackendIdleMs = false
is_of_version One Key.BodiesMib = false
is_of_version version key = true

-- a key outside all tables is allowed, where a table of windows is or isn't
abbrev pub is_top_key : Version → Bool → Key → Bool
is_top_key version windows Key.Window = windows
is_top_key version windows key = is_of_version version key

-- a key of the list is allowed
abbrev pub allows : AllowedKeys → Key → Bool
allows (Listed keys) key = true
allows (Top version windows) key = is_top_key version windows key

-- those that are allowed
abbrev pub allowed_keys : AllowedKeys → List Key
allowed_keys (Listed keys) = keys.now
allowed_keys (Top version windows) = filter (is_top_key version windows) top_keys
