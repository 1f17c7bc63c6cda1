-- The limit that workers can serve.
use Rattle.std.specs.Prelude.{ℕ, ◌+◌, ◌-◌, ◌*◌, ◌/◌, min, max, length, is_some, if◌then◌else◌}
use Rattle.auto.specs.AutoRules.{up_to}
use Rattle.limit_kinds.specs.declared.kinds.AnyLimit.{AnyLimit}
use Rattle.limit_kinds.specs.declared.kinds.AnyLimit.TheVariants.{Plain}
use Rattle.limit_kinds.specs.declared.kinds.BaseLimit.TheVariants.{Auto}
use Rattle.partitions.specs.Table.{bound}
use Rattle.gateway_settings.specs.declared.settings.Settings.{Settings}

-- how many callers can wait
abbrev pub waiting : Settings → ℕ
waiting s = if s.wait then s.backlog else 0

-- LEFT OVER: the workers but those who wait, one that refuses the rest, and one a class, whose
-- share is rounded up; a limit and the shares of it come to no more. It is at least half of the
-- workers, however many may wait
abbrev pub left_over : ℕ → Settings → ℕ
left_over workers s =
    max (min ((workers - (1 + waiting s + length s.table)) * 1000 / bound s.table 1000) workers)
    (workers / 2)

-- a limit without numbers goes up to so many, and any other as far as its own numbers say
abbrev pub going_to : ℕ → AnyLimit → AnyLimit
going_to most (Plain (Auto state)) = Plain (Auto (up_to most state))
going_to most limit = limit

-- THE LIMIT BEFORE SO MANY WORKERS; one that was made for a number of exchanges stays
abbrev pub limit_for : ℕ → Settings → AnyLimit
limit_for workers s =
    if is_some s.exchanges then s.limit else going_to (left_over workers s) s.limit
