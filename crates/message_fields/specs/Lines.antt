-- The lines of a name.
use Rattle.std.specs.Prelude.{ℕ, Bool, ◌&&◌, ◌==◌, List, find, codes, Option, option_map, count_by}
use Rattle.std.specs.List.{list_any}
use Rattle.message_parts.specs.Header.{Header}
use Rattle.message_parts.specs.Names.{same_name}

-- the line has the name
abbrev pub is_named : List ℕ → Header → Bool
is_named name line = same_name line.name name

-- how many lines have the name
abbrev pub count_named : List ℕ → List Header → ℕ
count_named name lines = count_by (is_named name) lines

-- the value of the first line of the name
abbrev pub first_value : List ℕ → List Header → Option (List ℕ)
first_value name lines = option_map (λ line. line.value) (find (is_named name) lines)

-- some line of the name has the word as its value, without ASCII case
abbrev pub has_word : List ℕ → List ℕ → List Header → Bool
has_word name word lines =
    list_any (λ line. is_named name line && same_name line.value word) lines

-- one line alone is Transfer-Encoding, and `chunked` is its value
abbrev pub is_chunked_alone : List Header → Bool
is_chunked_alone lines =
    (count_named (codes "transfer-encoding") lines == 1)
    && has_word (codes "transfer-encoding") (codes "chunked") lines

-- some line is `Expect: 100-continue`
abbrev pub asks_continue : List Header → Bool
asks_continue lines = has_word (codes "expect") (codes "100-continue") lines
