-- What is shown of a history, and what a call adds to it.
use Rattle.std.specs.Prelude.{◌≡◌, ℕ, ◌+◌, ◌^◌, ◌≤◌, nat_le, Bool, not, ◌&&◌, ◌||◌}
use Rattle.std.specs.Prelude.{List, ◌++◌, length, Option, None, Some, ⊤}
use Rattle.limiter_core.specs.declared.event.Entry.{Entry}

-- the number of the first entry, the entries, how many of them are kept, and whether it rolls
pub record Shown : Type 0 where
  pub base : ℕ
  pub entries : List Entry
  pub kept : ℕ
  pub is_rolling : Bool

-- the number of the next entry
abbrev pub next_of : Shown → ℕ
next_of s = s.base + length s.entries

-- EXHAUSTED: no acquire is answered any more, since a history that doesn't roll holds as many
-- entries as are kept, or since the next number is 2^62
abbrev pub is_exhausted : Shown → Bool
is_exhausted s =
    (not s.is_rolling && nat_le s.kept (length s.entries)) || nat_le (2 ^ 62) (next_of s)

-- A CALL ADDS entries of which this holds, told what was shown before. Where no entries are shown
-- nothing is said. Where the history rolled meanwhile the first number is greater than before;
-- where it didn't, the entries that were shown are followed by those that are added. How many are
-- kept stays, and so does whether it rolls.
abbrev pub Adds : Option Shown → Option Shown → (Shown → List Entry → Type 0) → Type 0
Adds None new P = ⊤
Adds (Some old) None P = ⊥
Adds (Some old) (Some new) P =
    (old.base ≤ new.base)
    × (new.base ≡ old.base
    → (added : List Entry) × (new.entries ≡ old.entries ++ added)
    × P old added)
    × (new.kept ≡ old.kept)
    × (new.is_rolling ≡ old.is_rolling)
