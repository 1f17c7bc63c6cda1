-- A status with a text.
use Rattle.std.specs.Prelude.{ℕ, List}

pub record Words : Type 0 where
  pub status : ℕ
  pub text : List ℕ

abbrev pub words : ℕ → List ℕ → Words
words status text = record { status = status; text = text }
