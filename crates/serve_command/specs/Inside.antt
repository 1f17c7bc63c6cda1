-- How many callers a gate lets in.
use Rattle.std.specs.Prelude.{◌+◌, ℕ}
use Rattle.limit_kinds.specs.AnyKinds.{any_hi}
use Rattle.partitions.specs.Table.{bound}
use Rattle.gateway_settings.specs.declared.settings.Settings.{Settings}
use Rattle.gateway_settings.specs.Workers.{limit_for, waiting}

-- how many callers can be in flight at the greatest limit before so many workers, with each class's
-- share of it, or wait
abbrev pub most_inside : ℕ → Settings → ℕ
most_inside workers s = bound s.table (any_hi (limit_for workers s)) + waiting s
