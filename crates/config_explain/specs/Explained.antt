-- What is said of a fault to a person.
use Rattle.std.specs.List.{list_any}
use Rattle.std.specs.Prelude.{◌≡◌, ◌++◌, ◌+◌, ◌-◌, ◌^◌, ℕ, min, Bool, true, false, ◌&&◌, ◌||◌, List, [], Option, Some, None, option_map, Err, bytes_eq, codes, decimal, if◌then◌else◌}
use Rattle.toml.specs.Data.{Members}
use Rattle.gate_config.specs.declared.fault.ConfigFault.{ConfigFault}
use Rattle.gate_config.specs.declared.fault.ConfigFault.TheVariants as Fault
use Rattle.gate_config.specs.declared.fault.KeyAtFault.{KeyAtFault}
use Rattle.gate_config.specs.declared.key.Key.{Key}
use Rattle.gate_config.specs.declared.key.Section.{Section}
use Rattle.gate_config.specs.declared.key.Section.TheVariants as In
use Rattle.gate_config.specs.declared.number.Range.{Range}
use Rattle.gate_config.specs.Fault.{plain}
use Rattle.gate_config.specs.Rows.{path_of, section_of}
use Rattle.gate_config.specs.Rows.{Bound, Holds, all_rows, left_of_hundred, left_of_places, left_of_thousand, number, of}
use Rattle.gate_config.specs.Settings.{IsOfKey, Reads, settings_of}
use Rattle.config_explain.specs.declared.members.Member.{Member}

-- what the table of a section is called; nothing outside all tables
abbrev pub table_name : Section → List ℕ
table_name In.Top = []
table_name In.Limit = codes "limit"
table_name In.Window = codes "window"
table_name In.Class = codes "class"
table_name In.Resolver = codes "resolver"
table_name In.Bypass = codes "bypass"

-- a table's number, counted from 1, as far as a `usize` goes
abbrev pub number_of : ℕ → ℕ
number_of place = min (place + 1) (2 ^ 64 - 1)

-- which table of its array it is, and of how many
abbrev pub member_line : Section → Option Member → List ℕ
member_line section None = []
member_line section (Some m) =
    table_name section ++ codes " " ++ decimal (number_of m.place) ++ codes " of "
    ++ decimal m.count ++ codes "\n"

-- the key's path, whether it isn't there, and what it holds
abbrev pub key_line : Key → Bool → List ℕ → List ℕ
key_line key is_missing held =
    path_of key ++ (if is_missing then codes " isn't there" else []) ++ codes ": " ++ held
    ++ codes "\n"

-- an end of a range hangs on other keys: it is an earlier key's number, or what the classes leave,
-- by themselves or with the backlog
abbrev pub end_hangs : Bound → Bool
end_hangs (of name) = true
end_hangs left_of_hundred = true
end_hangs left_of_thousand = true
end_hangs left_of_places = true
end_hangs _ = false

-- a range of numbers has such an end
abbrev pub range_hangs : Holds → Bool
range_hangs (number low high default) = end_hangs low || end_hangs high
range_hangs _ = false

-- the range of the key's numbers hangs on other keys, in some row of the key
abbrev pub hangs_on_others : Key → Bool
hangs_on_others key =
    list_any (λ row. range_hangs row.holds && bytes_eq (path_of row.key) (path_of key)) all_rows

-- the numbers from the least to the greatest
abbrev pub numbers_line : Option Range → List ℕ
numbers_line None = []
numbers_line (Some range) =
    codes "here from " ++ decimal range.low ++ codes " to " ++ decimal range.high ++ codes "\n"

-- the numbers that the key was judged by, where these hang on other keys
abbrev pub range_line : KeyAtFault → List ℕ
range_line at = if hangs_on_others at.key then numbers_line at.range else []

-- shown behind what was there: which table of its array it is, and then some line of the text
abbrev pub ShowsPlace : Section → Option Member → List ℕ → List ℕ → Type 0
ShowsPlace section member old new =
    (line : List ℕ) × (new ≡ old ++ member_line section member ++ line)

-- EXPLAINED: of a key which table has it, with its line; its path, and something of what it holds;
-- and the numbers that it was judged by
abbrev pub ExplainsKey : KeyAtFault → Bool → List ℕ → List ℕ → Type 0
ExplainsKey at is_missing old new =
    (member : Option Member) × (option_map (λ m. m.place) member ≡ at.member)
    × (line : List ℕ) × (held : List ℕ)
    × (new ≡ old ++ member_line (section_of at.key) member ++ line
    ++ key_line at.key is_missing held ++ range_line at)

-- of the fault of a key that; nothing of a lack of memory or of a text that is no TOML
abbrev pub ExplainsFault : ConfigFault → List ℕ → List ℕ → Type 0
ExplainsFault Fault.Memory old new = new ≡ old
ExplainsFault Fault.Toml old new = new ≡ old
ExplainsFault Fault.Version old new = ExplainsKey (plain Key.Version) false old new
ExplainsFault (Fault.Missing at) old new = ExplainsKey at true old new
ExplainsFault (Fault.Kind at) old new = ExplainsKey at false old new
ExplainsFault (Fault.Value at) old new = ExplainsKey at false old new
ExplainsFault (Fault.Unknown path) old new = Unit {0}
ExplainsFault Fault.Route old new = Unit {0}

-- EXPLAINED BYTES: where they hold a table whose first fault is that of a key, the words are this
-- fault's
abbrev pub IsExplained : List ℕ → List ℕ → Type 0
IsExplained bytes words = (t : Members) (fault : ConfigFault) → Reads bytes t → IsOfKey fault
    → settings_of t ≡ Err fault → ExplainsFault fault [] words
