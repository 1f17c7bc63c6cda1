-- The options of `serve`, by the rows of their table.
use Rattle.std.specs.Prelude.{◌≡◌, ◌&&◌, ℕ, Bool, false, List, [], ◌∷◌, Some, codes, unwrap_or}
use Rattle.std.specs.Prelude.{if◌then◌else◌, is_some}
use Rattle.clap.specs.Words.{Row, Text, first_of}
use Rattle.commands.specs.declared.serve_options.ServeOptions.{ServeOptions}
use Rattle.commands.specs.Options.{ServeRow, exchanges, serve_rows, workers}
use Rattle.commands.specs.Values.{Has, HasSome, IsWithin, is_given}

-- it holds of each row
abbrev pub Each : (ServeRow → Type 0) → List ServeRow → Type 0
Each P [] = Unit {0}
Each P (row ∷ rows) = P row × Each P rows

-- the words give both options that say how many threads serve
abbrev pub gives_both : List Row → Bool
gives_both rows = is_given workers.word rows && is_given exchanges.word rows

-- THE OPTIONS that the words have: each row of the table has its value, in its range, and only one
-- option says how many threads serve
pub record AreServeOptions (rows : List Row) (o : ServeOptions) : Type 0 where
  pub path : first_of (codes "config") rows ≡ Some o.path.now
  pub values : Each (λ row. Has rows row.entry (row.value o)) serve_rows
  pub once : gives_both rows ≡ false

-- the words have some value for each row, and don't give both options of threads
pub record AreGiven (rows : List Row) : Type 0 where
  pub path : Text
  pub path_is : first_of (codes "config") rows ≡ Some path
  pub values : Each (λ row. HasSome rows row.entry.word row.entry.holds) serve_rows
  pub once : gives_both rows ≡ false

-- how many threads serve: one for each exchange at once where that is given, else the workers
abbrev pub threads_of : ServeOptions → ℕ
threads_of o = unwrap_or o.exchanges o.workers

-- the least rate at which the body of a request has to arrive, in bytes per second: the one that is
-- given, else 500 where the number of exchanges at once is, and 0 for none
abbrev pub body_rate_of : ServeOptions → ℕ
body_rate_of o = unwrap_or o.body_rate (if is_some o.exchanges then 500 else 0)

-- the values are in their ranges
abbrev pub AreWithinRanges : ServeOptions → Type 0
AreWithinRanges o = Each (λ row. IsWithin row.entry.holds (row.value o)) serve_rows
