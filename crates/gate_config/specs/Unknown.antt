-- Keys that aren't allowed where they stand.
use Rattle.std.specs.Cmp.Lexicographic.{slice_cmp}
use Rattle.std.specs.Ordering.{is_lt, nat_cmp}
use Rattle.std.specs.Prelude.{ℕ, not, List, ◌++◌, map, filter, fold, Option, Some, None, if◌then◌else◌}
use Rattle.toml.specs.Data.{Members}
use Rattle.gate_config.specs.declared.key.Section.{Section}
use Rattle.gate_config.specs.declared.unknown.UnknownKey.{UnknownKey as UnknownKeyEntry}
use Rattle.gate_config.specs.Rows.{prefix_of}
use Rattle.gate_config.specs.KeyText.{key_text}
use Rattle.gate_config.specs.Table.{pairs_of}
use Rattle.gate_config.specs.Text.{is_among}

-- a key that isn't allowed where it stands: its section and its name
pub record UnknownKey : Type 0 where
  pub section : Section
  pub name : List ℕ

abbrev pub unknown_key_of : UnknownKeyEntry → UnknownKey
unknown_key_of key = record { section = key.section; name = key.name.now }

-- its dotted path, and the path as it is told
abbrev pub unknown_key_path : UnknownKey → List ℕ
unknown_key_path key = prefix_of key.section ++ key.name

abbrev pub unknown_key_text : UnknownKey → List ℕ
unknown_key_text key = prefix_of key.section ++ key_text key.name

-- those of the names that aren't allowed in a section
abbrev pub unknown_keys_among : Section → List (List ℕ) → List (List ℕ) → List UnknownKey
unknown_keys_among section allowed names =
    map (λ name. record { section = section; name = name })
    (filter (λ name. not (is_among allowed name)) names)

-- a table's keys that aren't allowed in its section
abbrev pub unknown_keys_in : Section → List (List ℕ) → Members → List UnknownKey
unknown_keys_in section allowed t =
    unknown_keys_among section allowed (map (λ pair. pair.0) (pairs_of t))

-- the one with the lesser path in byte order, where the first may be none
abbrev pub lesser : Option UnknownKey → UnknownKey → Option UnknownKey
lesser None key = Some key
lesser (Some best) key =
    if is_lt (slice_cmp nat_cmp (unknown_key_path key) (unknown_key_path best)) then Some key
    else Some best

-- the one with the least path, of those with one path the first
abbrev pub least : List UnknownKey → Option UnknownKey
least keys = fold lesser None keys
