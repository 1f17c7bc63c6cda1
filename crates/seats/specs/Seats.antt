-- Who waits.
use Rattle.std.specs.Prelude.{◌≡◌, ◌⊎◌, ℕ, ◌+◌, ◌-◌, ◌<◌, ◌≤◌, min, nat_le, nat_lt, Bool, true, false}
use Rattle.std.specs.Prelude.{List, [], ◌∷◌, ◌++◌, All, length, Option, Some, None}
use Rattle.std.specs.Duration.{as_nanos}
use Rattle.std.specs.declared.time.Duration.{Duration}
use Rattle.seats.specs.declared.row.Seated.{Seated}

-- a row: those who wait, the first who came first, each by its number with who it is and since
-- when; for how many nanoseconds one may wait; and how many it has room for, all of it reserved
pub record Waiting (T : Type 0) : Type 0 where
  pub taken : List (ℕ × Seated T)
  pub limit : ℕ
  pub room : ℕ

-- a row where nobody waits
abbrev pub empty_row : {T : Type 0} → ℕ → ℕ → Waiting T
empty_row limit room = record { taken = []; limit = limit; room = room }

-- seats: the row of those who have sent nothing yet, that of those who are kept, how many places
-- both have, and the number of the next seat
pub record Seating (T : Type 0) : Type 0 where
  pub silent : Waiting T
  pub kept : Waiting T
  pub places : ℕ
  pub next : ℕ

-- all who wait
abbrev pub taken_in : {T : Type 0} → Seating T → List (ℕ × Seated T)
taken_in seats = seats.silent.taken ++ seats.kept.taken

-- all places are taken
abbrev pub is_full : {T : Type 0} → Seating T → Bool
is_full seats = nat_le seats.places (length seats.silent.taken + length seats.kept.taken)

-- all numbers so far are below the next one, no more seats are taken than there are, and each row
-- has room for all of them and one more
pub record AreSeats {T : Type 0} (silent kept : Waiting T) (next places : ℕ) : Type 0 where
  pub silent_below : All (λ entry. entry.0 < next) silent.taken
  pub kept_below : All (λ entry. entry.0 < next) kept.taken
  pub few : length silent.taken + length kept.taken ≤ places
  pub silent_room : places < silent.room
  pub kept_room : places < kept.room

-- a row with one more at its end
abbrev pub behind : {T : Type 0} → ℕ × Seated T → Waiting T → Waiting T
behind entry row = record row { taken = row.taken ++ entry ∷ [] }

-- one more is kept, or has sent nothing yet
abbrev pub joined : {T : Type 0} → Bool → ℕ × Seated T → Seating T → Seating T
joined true entry seats =
    record seats { kept = behind entry seats.kept; next = seats.next + 1 }
joined false entry seats =
    record seats { silent = behind entry seats.silent; next = seats.next + 1 }

-- so it is of two rows
abbrev pub JoinedRows : {T : Type 0} → Bool → ℕ × Seated T → Waiting T → Waiting T → Waiting T
    → Waiting T → Type 0
JoinedRows true entry silent kept silent' kept' = (silent' ≡ silent) × (kept' ≡ behind entry kept)
JoinedRows false entry silent kept silent' kept' = (silent' ≡ behind entry silent) × (kept' ≡ kept)

-- the number of the first one
abbrev pub first_number : {X : Type 0} → List (ℕ × X) → Option ℕ
first_number [] = None
first_number (entry ∷ entries) = Some entry.0

-- whether the first one of a row was seated before that of another one: its number is less
abbrev pub comes_first : {X : Type 0} → List (ℕ × X) → List (ℕ × X) → Bool
comes_first [] others = false
comes_first (entry ∷ entries) [] = true
comes_first (entry ∷ entries) (other ∷ others) = nat_lt entry.0 other.0

-- this was the first one of a row, which left it; or there was none
abbrev pub FirstLeft : {T : Type 0} → Option (ℕ × Seated T) → Waiting T → Waiting T → Type 0
FirstLeft None old new = (old.taken ≡ []) × (new ≡ old)
FirstLeft (Some entry) old new =
    (old.taken ≡ entry ∷ new.taken) × (new.limit ≡ old.limit) × (new.room ≡ old.room)

-- the first one left of the first row of two, or of the second one
abbrev pub LeftEither : {T : Type 0} → Bool → Option (ℕ × Seated T) → Waiting T → Waiting T
    → Waiting T → Waiting T → Type 0
LeftEither true left silent kept silent' kept' = FirstLeft left silent silent' × (kept' ≡ kept)
LeftEither false left silent kept silent' kept' = FirstLeft left kept kept' × (silent' ≡ silent)

-- of two rows the one left who has waited longest
abbrev pub HasLeftRows : {T : Type 0} → Option (ℕ × Seated T) → Waiting T → Waiting T
    → Waiting T → Waiting T → Type 0
HasLeftRows left silent kept silent' kept' =
    LeftEither (comes_first silent.taken kept.taken) left silent kept silent' kept'

-- and did so where both had more than so many; else nobody left
abbrev pub MadeRoom : {T : Type 0} → ℕ → Option (ℕ × Seated T) → Waiting T → Waiting T → Waiting T
    → Waiting T → Type 0
MadeRoom most None silent kept silent' kept' =
    (silent' ≡ silent) × (kept' ≡ kept) × (length silent.taken + length kept.taken ≤ most)
MadeRoom most (Some entry) silent kept silent' kept' =
    HasLeftRows (Some entry) silent kept silent' kept'
    × (most < length silent.taken + length kept.taken)

-- who has waited longest of all left, or nobody did
abbrev pub HasLeft : {T : Type 0} → Option (ℕ × Seated T) → Seating T → Seating T → Type 0
HasLeft None old new = new ≡ old
HasLeft (Some entry) old new =
    HasLeftRows (Some entry) old.silent old.kept new.silent new.kept
    × (new.places ≡ old.places) × (new.next ≡ old.next)

-- the first one of a row left
abbrev pub LeavesRow : {T : Type 0} → Waiting T → Waiting T → T → Type 0
LeavesRow old new who = (number : ℕ) × (since : Duration)
    × (old.taken ≡ (number, record { who = who; since = since }) ∷ new.taken)
    × (new.limit ≡ old.limit) × (new.room ≡ old.room)

abbrev pub LeavesFirst : {T : Type 0} → Seating T → Seating T → T → Type 0
LeavesFirst old new who =
    (LeavesRow old.silent new.silent who × (new ≡ record old { silent = new.silent }))
    ⊎ (LeavesRow old.kept new.kept who × (new ≡ record old { kept = new.kept }))

-- how many nanoseconds the first one has left at a moment
abbrev pub left_of_first : {T : Type 0} → ℕ → ℕ → List (ℕ × Seated T) → Option ℕ
left_of_first now most [] = None
left_of_first now most (entry ∷ entries) = Some (most - (now - as_nanos (entry.1).since))

-- the lesser of two, where both are there
abbrev pub sooner : Option ℕ → Option ℕ → Option ℕ
sooner None other = other
sooner (Some one) None = Some one
sooner (Some one) (Some other) = Some (min one other)

-- how many the one has left whose time is over first
abbrev pub left_at : {T : Type 0} → ℕ → Seating T → Option ℕ
left_at now seats = sooner (left_of_first now seats.silent.limit seats.silent.taken)
    (left_of_first now seats.kept.limit seats.kept.taken)
