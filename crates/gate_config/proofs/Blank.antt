-- A text of white space and comments has an empty table.
use Rattle.std.proofs.Common.{◌≡◌, List, ℕ, Some}
use Rattle.toml.specs.Data.{no_members}
use Rattle.toml.specs.Errors.{IsBlank}
use Rattle.toml.specs.Parse.{lines, parse_document}

pub blank_table : (text : List ℕ) → IsBlank text → parse_document text ≡ Some no_members
unfolding parse_document lines
blank_table text blank = rw blank
