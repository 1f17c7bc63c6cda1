-- What is known of a backend, and the states of the limit.
use Rattle.std.specs.Prelude.{ℕ, ◌<◌, ◌≤◌}
use Rattle.limit_laws.specs.Algorithm.{greatest_limit}
use Rattle.auto.specs.declared.learned.Learned.{Learned}
use Rattle.auto.specs.Kept.{most_answers, AreKept}

-- the bounds and the first limit in permits, and what was learned since
pub record AutoState : Type 0 where
  pub lo : ℕ
  pub first : ℕ
  pub hi : ℕ
  pub learned : Learned

-- 1 ≤ lo ≤ first ≤ hi ≤ 10,000
pub record IsInRange (lo first hi : ℕ) : Type 0 where
  pub positive : 1 ≤ lo
  pub first_least : lo ≤ first
  pub first_most : first ≤ hi
  pub small : hi ≤ greatest_limit

-- what is true of every such limit
pub record IsAuto (s : AutoState) : Type 0 where
  pub range : IsInRange s.lo s.first s.hi
  pub kept : AreKept s.lo s.hi s.learned
  pub room : s.learned.window.count < most_answers
