-- Words that are compared without ASCII case.
use Rattle.std.specs.Prelude.{ℕ, Bool, List, map, bytes_eq}
use Rattle.std.specs.Char.{to_ascii_lowercase}

-- the names, or other words, agree without ASCII case
unfoldable pub same_name : List ℕ → List ℕ → Bool
same_name one other = bytes_eq (map to_ascii_lowercase one) (map to_ascii_lowercase other)
