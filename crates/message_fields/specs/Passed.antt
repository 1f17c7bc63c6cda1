-- The lines that are passed on.
use Rattle.std.specs.Prelude.{ℕ, Bool, not, ◌&&◌, ◌||◌, List, filter, codes}
use Rattle.std.specs.List.{list_any}
use Rattle.message_parts.specs.Field.{coding_names, connection_names}
use Rattle.message_parts.specs.Header.{Header}
use Rattle.message_parts.specs.Names.{same_name}
use Rattle.message_fields.specs.Lines.{is_named}
use Rattle.message_fields.specs.Parts.{parts_named}

-- the field says how one connection is used
abbrev pub is_of_connection : List ℕ → Bool
is_of_connection name = list_any (same_name name) connection_names

-- the field says how the body is sent over one connection
abbrev pub is_of_coding : List ℕ → Bool
is_of_coding name = list_any (same_name name) coding_names

-- the field is of one connection alone
abbrev pub is_own : List ℕ → Bool
is_own name = is_of_connection name || is_of_coding name

-- a Connection line among the lines names the field
abbrev pub is_connection_option : List Header → List ℕ → Bool
is_connection_option lines name =
    list_any (λ part. same_name part name) (parts_named (codes "connection") lines)

-- a Connection line among the lines has the option `close`: the connection ends with the message
abbrev pub asks_close : List Header → Bool
asks_close lines = is_connection_option lines (codes "close")

-- a line of a message with these lines is passed on: Host always, and any other line where it is
-- of no field of one connection and no Connection line names its field
abbrev pub is_passed : List Header → Header → Bool
is_passed lines line =
    is_named (codes "host") line
    || (not (is_own line.name) && not (is_connection_option lines line.name))

-- a line of a request is passed on: Expect never
abbrev pub is_passed_in_request : List Header → Header → Bool
is_passed_in_request lines line =
    is_passed lines line && not (is_named (codes "expect") line)

-- the lines of a response that are passed on, in order
abbrev pub response_lines : List Header → List Header
response_lines lines = filter (is_passed lines) lines

-- the lines of a request that are passed on, in order
abbrev pub request_lines : List Header → List Header
request_lines lines = filter (is_passed_in_request lines) lines
