-- Rows as they are without places, and what their places come to.
use Rattle.std.proofs.Common.{◌≡◌, ℕ, zero, suc, ◌+◌, ◌≤◌, List, [], ◌∷◌, ◌++◌, slice_get, refl, sym, ap, arith, zero-le, Bool, true, false, Option, None, Some, is_some, unwrap_or, if◌then◌else◌, true≢false, ◌-◌}
use Rattle.std.proofs.lemmas.List.{map-append}
use Rattle.std.specs.Prelude.{IfSome, is_none}
use Rattle.lifo_backlog.specs.Waiters.{most_waiters}
use Rattle.partitions.specs.Faults.{fault_of}
use Rattle.script.specs.Settings.{table_of}
use Rattle.partitions.specs.Table.{Row, row_places, placed, with_places, unplaced}

-- a row without its places
abbrev bare : Row → Row
bare row = record row { places = 0 }

-- one row more
pub unplaced-push : (rows : List Row) (row : Row)
    → unplaced (rows ++ bare row ∷ []) ≡ unplaced rows ++ bare row ∷ []
unplaced-push rows row = map-append bare rows (bare row ∷ [])

-- places change nothing else
pub unplaced-places : (rows : List Row) (p n : ℕ) → unplaced (with_places rows p n) ≡ unplaced rows
unplaced-places [] p n = refl
unplaced-places (row ∷ rows) zero n = refl
unplaced-places (row ∷ rows) (suc p) n =
    ap (λ (rest : List Row). bare row ∷ rest) (unplaced-places rows p n)

-- a row without places adds none
none-added : (rows : List Row) (row : Row) (k : ℕ)
    → row_places (slice_get (rows ++ bare row ∷ []) k) ≡ row_places (slice_get rows k)
none-added [] row zero = refl
none-added [] row (suc k) = refl
none-added (first ∷ rows) row zero = refl
none-added (first ∷ rows) row (suc k) = none-added rows row k

pub placed-push : (rows : List Row) (row : Row) → placed (rows ++ bare row ∷ []) ≡ placed rows
placed-push rows row =
    omega (
      arith,
      none-added rows row 0,
      none-added rows row 1,
      none-added rows row 2,
      none-added rows row 3,
    )

-- the places of the first rows
abbrev first : List Row → ℕ → ℕ
first [] k = 0
first (row ∷ rows) zero = 0
first (row ∷ rows) (suc k) = row.places + first rows k

first-four : (rows : List Row) → placed rows ≡ first rows 4
first-four [] = refl
first-four (a ∷ []) = omega arith
first-four (a ∷ b ∷ []) = omega arith
first-four (a ∷ b ∷ c ∷ []) = omega arith
first-four (a ∷ b ∷ c ∷ d ∷ []) = omega arith
first-four (a ∷ b ∷ c ∷ d ∷ e ∷ rows) = omega arith

first-places : (rows : List Row) (p n k : ℕ) → first (with_places rows p n) k ≤ first rows k + n
first-places [] p n k = zero-le
first-places (row ∷ rows) zero n zero = zero-le
first-places (row ∷ rows) (suc p) n zero = zero-le
first-places (row ∷ rows) zero n (suc k) = omega arith
first-places (row ∷ rows) (suc p) n (suc k) = omega (arith, first-places rows p n k)

-- so many at one row add no more
pub placed-places : (rows : List Row) (p n : ℕ) → placed (with_places rows p n) ≤ placed rows + n
placed-places rows p n =
    omega (
      arith,
      first-four rows,
      first-four (with_places rows p n),
      first-places rows p n 4,
    )

-- the rows that make a table are its rows
pub made_is : (rows made : List Row) → table_of rows ≡ Some made → made ≡ rows
made_is rows made e = at (is_none (fault_of rows)) e
  where
    at : (b : Bool) → (if b then Some rows else None) ≡ Some made → made ≡ rows
    at true e = sym (ap (λ (o : Option (List Row)). unwrap_or o made) e)
    at false e = absurd (true≢false (sym (ap is_some e)))

-- what stays of the places so far, behind one more class
pub keeps_backlog : (backlog : Option ℕ) (rows more : List Row) → placed more ≡ placed rows
    → IfSome backlog (λ room. room + placed rows ≤ most_waiters)
    → IfSome backlog (λ room. room + placed more ≤ most_waiters)
keeps_backlog None rows more same within = tt
keeps_backlog (Some room) rows more same within = omega (arith, same, within)

-- and behind places that are left
pub fits_backlog : (backlog : Option ℕ) (rows more : List Row) (left n : ℕ)
    → placed more ≤ placed rows + n → n ≤ left
    → left + (placed rows + unwrap_or backlog 0) ≡ most_waiters
    → IfSome backlog (λ room. room + placed more ≤ most_waiters)
fits_backlog None rows more left n few fits whole = tt
fits_backlog (Some room) rows more left n few fits whole = omega (arith, few, fits, whole)
