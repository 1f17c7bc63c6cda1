-- What contracts see of a log and of those who know it.
use Rattle.std.specs.Prelude.{◌≡◌, ℕ, List, []}
use Rattle.atomic_table.specs.Seated.{TableId}

-- the name of no table
abbrev pub no_table : TableId
no_table = record {
  words = 0;
  slots = 0;
  views_name = 0;
  atom = 0;
  block = 0;
  offset = 0;
  slot_names = [];
}

-- the name of a table of one word, without slots
abbrev pub IsTable : TableId → Type 0
IsTable table = (table.words ≡ 1) × (table.slots ≡ 0)

-- who knows a log: of which table, what of the log, and the numbers of own raises in it. A keeper
-- knows all of it, and has the numbers of whom it took back; a reader knows a beginning
pub record Knows (E : Type 0) : Type 0 where
  pub table : TableId
  pub log : List E
  pub own : List ℕ
