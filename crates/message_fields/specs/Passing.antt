-- Header lines, some of which are passed on.
use Rattle.std.specs.Prelude.{List}
use Rattle.message_parts.specs.Header.{Header}
use Rattle.message_fields.specs.declared.passing.Passing.{Passing}

-- the lines of the message
abbrev pub lines_of : Passing → List Header
lines_of passing = passing.lines.now
