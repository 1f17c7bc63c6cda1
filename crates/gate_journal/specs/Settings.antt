-- The journal of a gate that was just made of its settings.
use Rattle.std.specs.Prelude.{◌≤◌}
use Rattle.lifo_backlog.specs.Waiters.{most_waiters}
use Rattle.limiter_core.specs.Limiter.{unasked}
use Rattle.gate_journal.specs.declared.settings.GateSettings.{GateSettings}
use Rattle.gate_journal.specs.Journal.{Journal, most_kept, opened}

-- a gate can be made of the settings
abbrev pub AreInRange : {S : Type 0} → GateSettings S → Type 0
AreInRange s = (s.room ≤ most_waiters) × (1 ≤ s.kept) × (s.kept ≤ most_kept)

-- THE JOURNAL that begins with the settings: of a new limiter, of which nothing was asked
abbrev pub begun : {S : Type 0} → GateSettings S → Journal S
begun s = opened (unasked s.table s.room s.promote s.limit) s.kept s.is_rolling
