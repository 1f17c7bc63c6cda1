-- The settings of a script, line by line.
use Rattle.std.specs.Prelude.{◌≡◌, ℕ, Bool, false, ◌+◌, ◌-◌, min, ◌*◌, ◌^◌, nat_lt, nat_le, ◌&&◌, List, [], ◌∷◌, ◌++◌, Option, None, Some, is_none, unwrap_or, Result, Ok, Err, MatchResult, if◌then◌else◌}
use Rattle.limit_laws.specs.declared.limit.MakeFault.{MakeFault}
use Rattle.limit_laws.specs.Facts.{hour}
use Rattle.partitions.specs.declared.part.Part.{Part}
use Rattle.partitions.specs.Table.{Row, find_part, place_of, own_places, placed, with_places, unplaced}
use Rattle.partitions.specs.Faults.{fault_of}
use Rattle.lifo_backlog.specs.Waiters.{most_waiters}
use Rattle.limiter_core.specs.declared.promote.Promote.{Promote}
use Rattle.limiter_core.specs.declared.promote.Promote.TheVariants.{Newest}
use Rattle.windowed.specs.declared.numbers.WindowNumbers.{WindowNumbers}
use Rattle.windowed.specs.WindowedRules.{windows_made}
use Rattle.limit_kinds.specs.declared.kinds.BaseLimit.{BaseLimit}
use Rattle.limit_kinds.specs.declared.kinds.BaseLimit.TheVariants.{Fixed}
use Rattle.limit_kinds.specs.declared.kinds.AnyLimit.{AnyLimit}
use Rattle.limit_kinds.specs.declared.kinds.LimitSpec.{LimitSpec}
use Rattle.limit_kinds.specs.AnyKinds.{any_from}
use Rattle.limit_kinds.specs.Kinds.{limit_made}
use Rattle.script.specs.declared.setting.Setting.{Setting}
use Rattle.script.specs.declared.setting.Setting.TheVariants.{Limit, Window, Class, Share, Places, Backlog, Keep, Timeout, Promotion}
use Rattle.script.specs.declared.fault_kind.FaultKind.{FaultKind}
use Rattle.script.specs.declared.fault_kind.FaultKind.TheVariants as fault
use Rattle.script.specs.declared.fault_kind.FaultKind.TheVariants.{Twice, Value}
use Rattle.script.specs.Limits.{usual_backlog, usual_timeout, most_kept}

-- the settings so far: the limit, the windows over it, how many may wait beside the partitions' own
-- places, how many entries are kept, how long a caller waits and which waiters are promoted, where
-- a line gave them, whether the history rolls, and the known partitions
pub record SettingFacts : Type 0 where
  pub limit : Option BaseLimit
  pub window : Option WindowNumbers
  pub backlog : Option ℕ
  pub keep : Option ℕ
  pub is_rolling : Bool
  pub timeout : Option ℕ
  pub promote : Option Promote
  pub rows : List Row

abbrev pub no_settings : SettingFacts
no_settings = record {
  limit = None;
  window = None;
  backlog = None;
  keep = None;
  is_rolling = false;
  timeout = None;
  promote = None;
  rows = [];
}

-- what a setting leads to: the settings with it, or why it is at fault
abbrev pub Set : Type 0
Set = Result SettingFacts FaultKind

-- what numbers lead to of which something is made, and the fault where one is out of its range
abbrev pub in_range : {A : Type 0} → Result A MakeFault → (A → SettingFacts) → Set
in_range (Err fault) f = Err Value
in_range (Ok a) f = Ok (f a)

-- each is set once, but for the partitions
abbrev pub once : {A : Type 0} → Option A → Set → Set
once None set = set
once (Some before) set = Err Twice

abbrev pub with_limit : SettingFacts → LimitSpec → Set
with_limit s spec =
    once s.limit (in_range (limit_made spec) (λ limit. record s { limit = Some limit }))

abbrev pub with_window : SettingFacts → WindowNumbers → Set
with_window s numbers =
    once s.window (in_range (windows_made numbers) (λ window. record s { window = Some window }))

-- at most 10,000 may wait, in own places and in everybody's
abbrev pub with_backlog : SettingFacts → ℕ → Set
with_backlog s room =
    once s.backlog
    (if nat_le (room + placed s.rows) most_waiters then Ok (record s { backlog = Some room })
    else Err Value)

-- 1 to 1,000,000 entries are kept, of a history that rolls or doesn't
abbrev pub with_keep : SettingFacts → ℕ → Bool → Set
with_keep s entries is_rolling =
    once s.keep
    (if nat_le 1 entries && nat_le entries most_kept
    then Ok (record s { keep = Some entries; is_rolling = is_rolling })
    else Err Value)

-- a caller waits for 1 ns to an hour
abbrev pub with_timeout : SettingFacts → ℕ → Set
with_timeout s nanos =
    once s.timeout
    (if nat_le 1 nanos && nat_le nanos hour
    then Ok (record s { timeout = Some nanos })
    else Err Value)

-- which waiters are promoted
abbrev pub with_promote : SettingFacts → Promote → Set
with_promote s rule = once s.promote (Ok (record s { promote = Some rule }))

-- the table of the partitions that make one
abbrev pub table_of : List Row → Option (List Row)
table_of rows = if is_none (fault_of rows) then Some rows else None

-- one more partition: its thousandths fit 32 bits, and the partitions with it make a table,
-- whatever their places
abbrev pub with_row : SettingFacts → Row → Set
with_row s row =
    if nat_lt row.thousandths (2 ^ 32) && is_none (fault_of (unplaced s.rows ++ row ∷ []))
    then Ok (record s { rows = s.rows ++ row ∷ [] })
    else Err Value

-- the same, of a percentage: ten times as many thousandths
abbrev pub with_percent : SettingFacts → List ℕ → ℕ → Set
with_percent s name percent =
    with_row s (record { name = name; thousandths = 10 * percent; places = 0 })

-- so many places for a known partition that has none yet: the first fault that applies
abbrev pub places_for : SettingFacts → ℕ → Option Part → Set
places_for s n None =
    if nat_le (n + placed s.rows + unwrap_or s.backlog 0) most_waiters then Err fault.Class
    else Err Value
places_for s n (Some part) =
    if nat_lt 0 (own_places s.rows (place_of s.rows part)) then Err Twice
    else (if nat_le (n + placed s.rows + unwrap_or s.backlog 0) most_waiters
    then Ok (record s { rows = with_places s.rows (place_of s.rows part) n })
    else Err Value)

abbrev pub with_own_places : SettingFacts → List ℕ → ℕ → Set
with_own_places s name n = places_for s n (find_part s.rows name)

-- WHAT A SETTING LEADS TO behind these settings
abbrev pub with_setting : SettingFacts → Setting (List ℕ) → Set
with_setting s (Limit spec) = with_limit s spec
with_setting s (Window numbers) = with_window s numbers
with_setting s (Class name percent) = with_percent s name percent
with_setting s (Share name thousandths) =
    with_row s (record { name = name; thousandths = thousandths; places = 0 })
with_setting s (Places name n) = with_own_places s name n
with_setting s (Backlog room) = with_backlog s room
with_setting s (Keep entries is_rolling) = with_keep s entries is_rolling
with_setting s (Timeout nanos) = with_timeout s nanos
with_setting s (Promotion rule) = with_promote s rule

-- the limit of the settings, which is fixed at n where no line gave one
abbrev pub base_or : ℕ → Option BaseLimit → BaseLimit
base_or n None = Fixed n
base_or n (Some limit) = limit

-- under the windows of the settings, where a line gave them: the first one is empty
abbrev pub limit_of : ℕ → SettingFacts → AnyLimit
limit_of n s = any_from (base_or n s.limit) s.window

-- how many may wait in everybody's places: 100 where no line says it, or what the own ones leave of
-- 10,000
abbrev pub backlog_of : SettingFacts → ℕ
backlog_of s = unwrap_or s.backlog (min usual_backlog (most_waiters - placed s.rows))

-- and in all
abbrev pub room_of : SettingFacts → ℕ
room_of s = backlog_of s + placed s.rows

-- how many entries are kept: the usual number where no line says it
abbrev pub kept_of : ℕ → SettingFacts → ℕ
kept_of usual s = unwrap_or s.keep usual

-- how long a caller waits: one second where no line says it
abbrev pub timeout_of : SettingFacts → ℕ
timeout_of s = unwrap_or s.timeout usual_timeout

-- which waiters are promoted: the newest alone where no line says it
abbrev pub promote_of : SettingFacts → Promote
promote_of s = unwrap_or s.promote Newest

-- what is answered to a setting: that it is taken, or why it is at fault, and then the settings
-- stay
abbrev pub Answers : Set → SettingFacts → SettingFacts → Result (Unit {0}) FaultKind → Type 0
Answers set old new answer =
    MatchResult answer (λ _. set ≡ Ok new) (λ why. (set ≡ Err why) × (new ≡ old))
