-- The course of a limit: what it is after any changes, whichever algorithm finds it.
use Rattle.std.specs.Prelude.{ℕ, List, fold}
use Rattle.limit_laws.specs.Algorithm.{Algorithm}
use Rattle.limit_laws.specs.Facts.{SampleFacts}
use Rattle.limiter_core.specs.History.{accepted_or}

-- what changes the state of an algorithm: a sample, a setting by hand, and a reset
pub data Change : Type 0 where
  sampled : SampleFacts → Change
  put : ℕ → Change
  reset : Change

-- the state after a change
abbrev pub changed : {S : Type 0} → Algorithm S → S → Change → S
changed rules s (sampled x) = rules.next s x
changed rules s (put n) = accepted_or s (rules.put s n)
changed rules s reset = rules.first s

-- THE COURSE of a limit from a state on: the number that it is after each list of changes. Two are
-- the same where both limits give the same numbers after all of them
abbrev pub course_of : {S : Type 0} → Algorithm S → S → List Change → ℕ
course_of rules s changes = rules.limit (fold (changed rules) s changes)
