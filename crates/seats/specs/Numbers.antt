-- Numbers of those who wait in a row.
use Rattle.std.specs.Prelude.{◌≡◌, ◌≢◌, ℕ, ◌<◌, ◌≤◌, List, All, length, slice_index_or}
use Rattle.std.specs.List.{AllPairs}

module _ {X : Type 0} where
  -- each number is below those of all after it
  abbrev pub AreInOrder : List (ℕ × X) → Type 0
  AreInOrder seated = AllPairs (λ (one later : ℕ × X). one.0 < later.0) seated

  -- of a queue: so they are, and it counts them
  pub record IsRow (seated : List (ℕ × X)) (len : ℕ) : Type 0 where
    pub in_order : AreInOrder seated
    pub counted : len ≡ length seated

  -- nobody has this number
  abbrev pub NoneHas : List (ℕ × X) → ℕ → Type 0
  NoneHas seated number = All (λ (one : ℕ × X). one.0 ≢ number) seated

  -- the first place from this number on: those before it have lower numbers, and no other has
  pub record IsFirstFrom (seated : List (ℕ × X)) (number at : ℕ) : Type 0 where
    pub within : at ≤ length seated
    pub below : (k : ℕ) (d : ℕ × X) → k < at → (slice_index_or seated k d).0 < number
    pub others : (k : ℕ) (d : ℕ × X) → at ≤ k → k < length seated
        → number ≤ (slice_index_or seated k d).0

  -- the one of this number is at this place
  pub record IsSeatAt (seated : List (ℕ × X)) (at number : ℕ) : Type 0 where
    pub within : at < length seated
    pub numbered : (d : ℕ × X) → (slice_index_or seated at d).0 ≡ number
