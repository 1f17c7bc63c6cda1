-- The length that the lines of Content-Length give.
use Rattle.std.specs.Prelude.{ℕ, Bool, ◌&&◌, nat_lt, nat_le, List, length, codes, bytes_eq, Option, None, Some, Result, Ok, Err, if◌then◌else◌}
use Rattle.std.specs.List.{list_all, slice_get}
use Rattle.std.specs.Char.{is_ascii_digit}
use Rattle.std.specs.Str.Parse.{digits_value}
use Rattle.message_parts.specs.Header.{Header}
use Rattle.message_fields.specs.declared.length.LengthFault.{LengthFault}
use Rattle.message_fields.specs.declared.length.LengthFault.TheVariants as fault
use Rattle.message_fields.specs.Parts.{parts_named}

-- the text is digits, and has at least one
abbrev pub is_digits : List ℕ → Bool
is_digits text = nat_lt 0 (length text) && list_all is_ascii_digit text

-- the first part, where it is digits and all parts are equal to it
abbrev pub digits_first : List (List ℕ) → Option (List ℕ) → Option (List ℕ)
digits_first parts None = None
digits_first parts (Some first) =
    if is_digits first && list_all (bytes_eq first) parts then Some first else None

-- the one string of digits that all parts of all lines of Content-Length are
abbrev pub length_digits : List Header → Option (List ℕ)
length_digits lines =
    let parts = parts_named (codes "content-length") lines in digits_first parts (slice_get parts 0)

-- a body has at most so many bytes
abbrev pub limited : ℕ → ℕ → Result ℕ LengthFault
limited most size = if nat_le size most then Ok size else Err fault.TooLarge

-- the length that the digits give
abbrev pub digits_length : ℕ → Option (List ℕ) → Result ℕ LengthFault
digits_length most None = Err fault.Malformed
digits_length most (Some digits) = limited most (digits_value 10 digits)

-- the length of the body that follows lines with a Content-Length, which is at most so many bytes
abbrev pub length_within : ℕ → List Header → Result ℕ LengthFault
length_within most lines = digits_length most (length_digits lines)

-- the greatest number of bytes of a body that is read whole
abbrev pub most_body : ℕ
most_body = 8388608
