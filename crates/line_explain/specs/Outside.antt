-- Which number or name of a line is out of its range.
use Rattle.std.specs.Prelude.{ℕ, Bool, true, ◌&&◌, ◌==◌, nat_le, List, length, Option, find, option_and_then, slice_get, unwrap_or}
use Rattle.std.specs.List.{common_prefix_len}
use Rattle.std.specs.Option.{option_map_or}
use Rattle.partitions.specs.Table.{is_name}
use Rattle.script.specs.Words.{number_of}
use Rattle.script.specs.declared.forms.TextKind.{TextKind}
use Rattle.script.specs.declared.place.RangeEnd.{RangeEnd}
use Rattle.script.specs.declared.place.RangeEnd.TheVariants.{At, Of}
use Rattle.script.specs.Forms.{Wanted, number, name}
use Rattle.script.specs.LineForms.{forms_of}
use Rattle.line_explain.specs.Astray.{reach}

-- the number that an end of a range is in a line
abbrev pub end_at : List (List ℕ) → RangeEnd → ℕ
end_at words (At n) = n
end_at words (Of place) = unwrap_or (option_and_then number_of (slice_get words place)) 0

-- a word is in the range of what is wanted at its place: a number between its ends, or the name of
-- a class that is none but by others
abbrev pub is_within : List (List ℕ) → Wanted → List ℕ → Bool
is_within words (number low high) word =
    option_map_or (λ n. nat_le (end_at words low) n && nat_le n (end_at words high))
    (number_of word) true
is_within words name word = is_name word
is_within words _ word = true

-- OUTSIDE: the place of the first word that is out of its range; the number of places where none is
abbrev pub outside : List (List ℕ) → List Wanted → ℕ
outside words form = common_prefix_len (λ word wanted. is_within words wanted word) words form

-- a line has a form from its first word to its last
abbrev pub is_whole : List (List ℕ) → List Wanted → Bool
is_whole words form = reach words form == length form && length words == length form

-- the form that a line has, if it has one
abbrev pub form_had : TextKind → List (List ℕ) → Option (List Wanted)
form_had kind words = find (is_whole words) (forms_of kind)
