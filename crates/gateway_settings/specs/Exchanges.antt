-- The settings for a number of exchanges at once.
use Rattle.std.specs.Prelude.{ℕ, ◌+◌, ◌*◌, ◌/◌, ◌≤◌, ◌&&◌, Bool, true, false, min, nat_le}
use Rattle.std.specs.Prelude.{if◌then◌else◌, is_none, Option, None, Some, ⊤}
use Rattle.lemmas.specs.Extremes.{greatest}
use Rattle.limit_laws.specs.Algorithm.{greatest_limit}
use Rattle.limit_kinds.specs.AnyKinds.{any_kind, any_rules, any_with_greatest}
use Rattle.limit_kinds.specs.declared.kinds.LimitKind.{LimitKind}
use Rattle.limit_kinds.specs.declared.kinds.LimitKind.TheVariants.{Fixed, Settable, Aimd, Vegas, Auto}
use Rattle.partitions.specs.Table.{bound, placed}
use Rattle.gateway_settings.specs.declared.settings.Settings.{Settings}

-- the backlog for n exchanges: an omitted one has a fourth of n for everybody, or the default where
-- that is less
abbrev pub backlog_for : ℕ → Settings → ℕ
backlog_for n s =
    if s.omitted.backlog then min s.backlog (n / 4 + placed s.table) else s.backlog

-- the MiB of all bodies together for exchanges: 1,024 where they are omitted
abbrev pub bodies_for : Settings → ℕ
bodies_for s = if s.omitted.bodies then 1024 else s.bodies_mib

-- the bound on the bytes of all bodies: of what is written or is made for exchanges, and else none
abbrev pub bodies_bound : Settings → Option ℕ
bodies_bound s =
    if s.omitted.bodies && is_none s.exchanges then None else Some (s.bodies_mib * 1048576)

-- how many of the exchanges can wait
abbrev pub waiting_for : ℕ → Settings → ℕ
waiting_for n s = if s.wait then backlog_for n s else 0

-- what n exchanges are to serve where the greatest limit is hi: those in flight, by the limit and
-- by the shares of it, those that wait, and one that is refused
abbrev pub wanted : ℕ → Settings → ℕ → ℕ
wanted n s hi = bound s.table hi + waiting_for n s + 1

-- a limit of this kind takes what is left: aimd and vegas where their greatest limit is omitted,
-- and each that finds itself
abbrev pub takes_rest : Bool → LimitKind → Bool
takes_rest omitted Fixed = false
takes_rest omitted Settable = false
takes_rest omitted Aimd = omitted
takes_rest omitted Vegas = omitted
takes_rest omitted Auto = true

abbrev pub gives_way : Settings → Bool
gives_way s = takes_rest s.omitted.limit_max (any_kind s.limit)

-- the least greatest limit that the settings allow
abbrev pub least_hi : Settings → ℕ
least_hi s = if gives_way s then any_rules.lo s.limit else any_rules.hi s.limit

-- n exchanges are enough: what the settings want at least is no more
abbrev pub AreEnough : ℕ → Settings → Type 0
AreEnough n s = wanted n s (least_hi s) ≤ n

-- the greatest limit that n exchanges can serve, as far as the limit goes at all
abbrev pub greatest_hi : ℕ → Settings → ℕ
greatest_hi n s =
    greatest (λ hi. nat_le (wanted n s hi) n)
    (any_rules.hi (any_with_greatest greatest_limit s.limit))

-- THE SETTINGS FOR N EXCHANGES
abbrev pub settings_for : ℕ → Settings → Settings
settings_for n s = record s {
  backlog = backlog_for n s;
  bodies_mib = bodies_for s;
  limit = if gives_way s then any_with_greatest (greatest_hi n s) s.limit else s.limit;
  exchanges = Some n;
}

-- the settings by which clients are served: those of the configuration, or what they are for the
-- number of exchanges where one is given
abbrev pub settings_by : Option ℕ → Settings → Settings
settings_by None s = s
settings_by (Some n) s = settings_for n s

-- that number is enough, where one is given
abbrev pub AreEnoughFor : Option ℕ → Settings → Type 0
AreEnoughFor None s = ⊤
AreEnoughFor (Some n) s = AreEnough n s

-- a number is given that isn't enough, and this is the least one that is
abbrev pub AreTooFew : Option ℕ → Settings → ℕ → Type 0
AreTooFew None s least = ⊥
AreTooFew (Some n) s least =
    (¬ AreEnough n s) × AreEnough least s × ((m : ℕ) → AreEnough m s → least ≤ m)
