-- The rule of the bytes that are held: who holds how many, and how each step changes that.
use Rattle.std.specs.Prelude.{◌≡◌, ◌≢◌, ◌≤◌, ◌+◌, ◌-◌, ℕ, List, [], ◌∷◌, sum_by}
use Rattle.atomic_table.specs.Table.{Me, Step}
use Rattle.body_memory.specs.declared.rule.Holding.{Holding}

-- one seat holds so many
abbrev pub holding : ℕ → Holding
holding bytes = record { held = bytes }

-- what all seats hold
abbrev pub held_by_all : List Holding → ℕ
held_by_all views = sum_by (λ v. v.held) views

-- THE RULE: the word is what all hold, and that is at most the bound
abbrev pub IsBounded : ℕ → List ℕ → List Holding → Type 0
IsBounded bound words views =
    (words ≡ held_by_all views ∷ []) × (held_by_all views ≤ bound)

-- a new seat holds nothing
abbrev pub Entered : Step ℕ → Me ℕ Holding → ℕ → Me ℕ Holding → Type 0
Entered s v found w = w ≡ (holding 0, [])

-- a look changes nothing, and finds no less than the seat holds
abbrev pub Looked : Step ℕ → Me ℕ Holding → ℕ → Me ℕ Holding → Type 0
Looked s v found w = (w ≡ v) × (v.0.held ≤ found)

-- where the word was the first number, it is the second, and the seat holds the difference more
abbrev pub Grew : Step ℕ → Me ℕ Holding → ℕ → Me ℕ Holding → Type 0
Grew s v found w =
    (found ≡ s.first → w ≡ (holding (v.0.held + (s.second - s.first)), v.1))
    × (found ≢ s.first → w ≡ v)

-- the seat holds nothing any more
abbrev pub Emptied : Step ℕ → Me ℕ Holding → ℕ → Me ℕ Holding → Type 0
Emptied s v found w = w ≡ (holding 0, v.1)
