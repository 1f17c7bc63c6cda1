-- Field names.
use Rattle.std.proofs.Common.{◌≡◌, ◌≢◌, ℕ, false, List, length}
use Rattle.std.specs.Char.{to_ascii_lowercase}
use Rattle.lemmas.proofs.Tests.{bytes_eq-lengths}
use Rattle.message_parts.specs.Names.{same_name}

-- names of different lengths aren't the same
pub other_length : (one other : List ℕ) → length one ≢ length other → same_name one other ≡ false
unfolding same_name
other_length one other differ = bytes_eq-lengths to_ascii_lowercase one other differ
