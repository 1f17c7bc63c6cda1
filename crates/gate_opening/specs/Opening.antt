-- What the gate of a configuration is made with.
use Rattle.std.specs.Prelude.{ℕ, true}
use Rattle.limit_kinds.specs.declared.kinds.AnyLimit.{AnyLimit}
use Rattle.limit_kinds.specs.AnyKinds.{any_rules}
use Rattle.limiter_core.specs.Limiter.{unasked}
use Rattle.gate_journal.specs.Journal.{Journal, opened}
use Rattle.gate_ledgers.specs.Making.{Making}
use Rattle.gate_history.specs.Book.{made_with}
use Rattle.gateway_settings.specs.declared.settings.Settings.{Settings}
use Rattle.gateway_settings.specs.Workers.{limit_for}

-- the journal of a limiter that the settings make before so many workers, of which nothing was
-- asked; it rolls
abbrev pub journal_of : ℕ → Settings → Journal AnyLimit
journal_of workers s =
    opened (unasked s.table s.backlog s.promote (limit_for workers s)) s.keep true

-- what the gate of these settings is made with
abbrev pub making_of : ℕ → Settings → Making
making_of workers s = made_with any_rules (journal_of workers s)
