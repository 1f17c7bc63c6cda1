-- What contracts see of the bytes that are held.
use Rattle.std.specs.Prelude.{◌≡◌, ℕ, Option, option_map}
use Rattle.atomic_table.specs.Seated.{TableId}

-- the name of a table of one word, without slots
abbrev pub IsTable : TableId → Type 0
IsTable table = (table.words ≡ 1) × (table.slots ≡ 0)

-- bytes that are shared: by whom, and how many there are
pub record Shared : Type 0 where
  pub table : TableId
  pub bound : ℕ

-- what one holds: how many bytes, and of how many that are shared, where there is a bound; and how
-- often some were refused
pub record Held : Type 0 where
  pub part : Option (ℕ × ℕ)
  pub refused : ℕ

-- how many bytes one holds, where there is a bound
abbrev pub held_of : Held → Option ℕ
held_of h = option_map (λ part. part.0) h.part

abbrev pub bound_of : Held → Option ℕ
bound_of h = option_map (λ part. part.1) h.part
