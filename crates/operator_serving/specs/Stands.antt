-- Where a thread stands that serves operators.
use Rattle.std.specs.Prelude.{ℕ}
use Rattle.counted_io.specs.Count.{raised}

-- A STAND: its desk, how many clients its door gave, how often that gave none, and how often memory
-- for an answer was refused
pub record Stand (D : Type 0) : Type 0 where
  pub desk : D
  pub given : ℕ
  pub failed : ℕ
  pub refused : ℕ

abbrev pub stand : {D : Type 0} → D → (given failed refused : ℕ) → Stand D
stand desk given failed refused =
    record { desk = desk; given = given; failed = failed; refused = refused }

-- once its door has given none more
abbrev pub one_missed : {D : Type 0} → Stand D → Stand D
one_missed at = stand at.desk at.given (raised at.failed) at.refused

-- once its door has given one more, behind whom the desk stands so
abbrev pub one_given : {D : Type 0} → Stand D → D → ℕ → Stand D
one_given at desk refused = stand desk (raised at.given) at.failed refused
