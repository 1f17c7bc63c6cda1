-- Values that are lists with commas.
use Rattle.std.specs.Prelude.{ℕ, ◌-◌, Bool, ◌||◌, ◌==◌, List, length, take, drop, map, filter}
use Rattle.std.specs.List.{flat_map, prefix_len, suffix_len, slice_split}
use Rattle.message_parts.specs.Header.{Header}
use Rattle.message_fields.specs.Lines.{is_named}

-- a space or a tab
abbrev pub is_blank : ℕ → Bool
is_blank byte = (byte == 32) || (byte == 9)

-- without the blanks in front
abbrev pub trimmed_start : List ℕ → List ℕ
trimmed_start text = drop (prefix_len is_blank text) text

-- without the blanks at the end
abbrev pub trimmed_end : List ℕ → List ℕ
trimmed_end text = take (length text - suffix_len is_blank text) text

-- without the blanks at both ends
abbrev pub trimmed : List ℕ → List ℕ
trimmed text = trimmed_end (trimmed_start text)

-- the parts of a value between its commas, without the blanks around them
abbrev pub parts : List ℕ → List (List ℕ)
parts value = map trimmed (slice_split (λ byte. byte == 44) value)

-- the parts of all lines of the name, in order
abbrev pub parts_named : List ℕ → List Header → List (List ℕ)
parts_named name lines = flat_map (λ line. parts line.value) (filter (is_named name) lines)
