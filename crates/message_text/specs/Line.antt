-- Header lines as they are written.
use Rattle.std.specs.Prelude.{ℕ, List, [], ◌∷◌, codes, decimal, length}
use Rattle.std.specs.List.{concat, flat_map}
use Rattle.message_parts.specs.Header.{Header}
use Rattle.message_text.specs.declared.persistence.Persistence.{Persistence}
use Rattle.message_text.specs.declared.persistence.Persistence.TheVariants.{Close, Keep}

-- the line of a name and a value
abbrev pub line_of : List ℕ → List ℕ → Header
line_of name value = record { name = name; value = value }

-- a line as it is written
unfoldable pub line_text : Header → List ℕ
line_text line = concat (line.name ∷ codes ": " ∷ line.value ∷ codes "\r\n" ∷ [])

-- lines as they are written
unfoldable pub lines_text : List Header → List ℕ
lines_text lines = flat_map line_text lines

-- the line that tells the length of a body
abbrev pub length_line : List ℕ → Header
length_line body = line_of (codes "Content-Length") (decimal (length body))

-- the line that says that the connection ends with the message
abbrev pub close_line : Header
close_line = line_of (codes "Connection") (codes "close")

-- that line, where the connection ends, and none where it is kept
abbrev pub close_lines : Persistence → List Header
close_lines Close = close_line ∷ []
close_lines Keep = []
