-- What counters tell of calls and permits.
use Rattle.std.specs.Prelude.{◌≡◌, ◌+◌, ℕ}
use Rattle.limiter_core.specs.declared.counters.Counters.{Counters}

-- how many calls counters tell of: each asks for a permit, gives up a place in line, of one who was
-- promoted meanwhile or of one who wasn't, or ends a permit
abbrev pub calls_told : Counters → ℕ
calls_told c =
    c.admitted + c.bypassed + c.full + c.backlog_full + c.waiting + c.promoted + c.timed_out
    + c.success + c.ignored + c.dropped

-- what counters tell where no permit is left and nobody waits: each permit was ended, and whoever
-- began to wait was promoted or gave up
pub record AreEnded (c : Counters) : Type 0 where
  pub permits : c.admitted + c.promoted ≡ c.success + c.ignored + c.dropped
  pub waiters : c.waiting ≡ c.promoted + c.timed_out
