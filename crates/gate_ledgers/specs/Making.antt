-- What a gate is made with.
use Rattle.std.specs.Prelude.{ℕ, Bool, List}
use Rattle.partitions.specs.Table.{Row}
use Rattle.limiter_core.specs.declared.promote.Promote.{Promote}
use Rattle.gate_ledgers.specs.Course.{Change}

-- the known partitions, how many may wait, which of those are promoted, how many entries are kept,
-- but for those that are owed, whether the history rolls where it holds as many, and the course of
-- the limit from the state on in which nothing was asked
pub record Making : Type 0 where
  pub rows : List Row
  pub room : ℕ
  pub promote : Promote
  pub kept : ℕ
  pub is_rolling : Bool
  pub limit : List Change → ℕ
