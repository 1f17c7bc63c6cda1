-- How a key is told: as TOML writes it bare, or else as a basic string, so that it is one line.
use Rattle.std.specs.Fmt.{digit_glyph}
use Rattle.std.specs.List.{list_all}
use Rattle.std.specs.Prelude.{ℕ, ◌/◌, ◌%◌, Bool, true, ◌&&◌, ◌||◌, ◌==◌, nat_le, List, [], ◌∷◌, ◌++◌, length, flat_map, codes, encode_utf8, if◌then◌else◌}
use Rattle.std.specs.Str.{chars}

-- the bytes of bare keys: letters, digits, the dash and the underscore
abbrev pub is_bare_byte : ℕ → Bool
is_bare_byte b =
    (nat_le 97 b && nat_le b 122) || (nat_le 65 b && nat_le b 90)
    || (nat_le 48 b && nat_le b 57) || b == 45 || b == 95

-- a bare key has one or more of them
abbrev pub is_bare : List ℕ → Bool
is_bare name = nat_le 1 (length name) && list_all is_bare_byte name

-- a control character, of ASCII or above it
abbrev pub is_control : ℕ → Bool
is_control c = nat_le c 31 || (nat_le 127 c && nat_le c 159)

-- the code of a control character, as in `\u001B`
abbrev pub control_text : ℕ → List ℕ
control_text c = codes "\\u00" ++ digit_glyph true (c / 16) ∷ digit_glyph true (c % 16) ∷ []

-- a character in a basic string: a quote, a backslash and each control character is escaped
abbrev pub escaped : ℕ → List ℕ
escaped c =
    if c == 34 then codes "\\\"" else (
    if c == 92 then codes "\\\\" else (
    if c == 8 then codes "\\b" else (
    if c == 9 then codes "\\t" else (
    if c == 10 then codes "\\n" else (
    if c == 12 then codes "\\f" else (
    if c == 13 then codes "\\r" else (
    if is_control c then control_text c else encode_utf8 c)))))))

-- the basic string of a text
abbrev pub quoted : List ℕ → List ℕ
quoted name = codes "\"" ++ flat_map escaped (chars name) ++ codes "\""

-- a key's name, quoted unless it is bare
abbrev pub key_text : List ℕ → List ℕ
key_text name = if is_bare name then name else quoted name
