-- A header line, as contracts see it.
use Rattle.std.specs.Prelude.{ℕ, List}

pub record Header : Type 0 where
  pub name : List ℕ
  pub value : List ℕ
