-- A limit over each sample or over windows, as one: each keeps its own rule.
use Rattle.std.specs.Prelude.{ℕ, Option, None, Some, Result}
use Rattle.limit_laws.specs.declared.limit.SetFault.{SetFault}
use Rattle.limit_laws.specs.declared.view.LimitView.{LimitView}
use Rattle.limit_laws.specs.Facts.{SampleFacts}
use Rattle.limit_laws.specs.Algorithm.{Algorithm}
use Rattle.windowed.specs.declared.numbers.WindowNumbers.{WindowNumbers}
use Rattle.windowed.specs.WindowedRules.{WindowedState, opened, windowed_rules}
use Rattle.limit_kinds.specs.declared.kinds.LimitKind.{LimitKind}
use Rattle.limit_kinds.specs.declared.kinds.BaseLimit.{BaseLimit}
use Rattle.limit_kinds.specs.declared.kinds.AnyLimit.{AnyLimit}
use Rattle.limit_kinds.specs.declared.kinds.AnyLimit.TheVariants.{Plain, Windowed}
use Rattle.limit_kinds.specs.Kinds.{set_in, base_kind, base_rules, base_with_greatest}

-- the rule over windows
abbrev pub window_rules : Algorithm (WindowedState BaseLimit)
window_rules = windowed_rules base_rules

abbrev pub any_lo : AnyLimit → ℕ
any_lo (Plain s) = base_rules.lo s
any_lo (Windowed s) = window_rules.lo s

abbrev pub any_limit : AnyLimit → ℕ
any_limit (Plain s) = base_rules.limit s
any_limit (Windowed s) = window_rules.limit s

abbrev pub any_hi : AnyLimit → ℕ
any_hi (Plain s) = base_rules.hi s
any_hi (Windowed s) = window_rules.hi s

abbrev pub any_view : AnyLimit → LimitView
any_view (Plain s) = base_rules.view s
any_view (Windowed s) = window_rules.view s

abbrev pub any_next : AnyLimit → SampleFacts → AnyLimit
any_next (Plain s) x = Plain (base_rules.next s x)
any_next (Windowed s) x = Windowed (window_rules.next s x)

abbrev pub any_put : AnyLimit → ℕ → Result AnyLimit SetFault
any_put (Plain s) n = set_in Plain (base_rules.put s n)
any_put (Windowed s) n = set_in Windowed (window_rules.put s n)

abbrev pub any_first : AnyLimit → AnyLimit
any_first (Plain s) = Plain (base_rules.first s)
any_first (Windowed s) = Windowed (window_rules.first s)

-- the kind of a limit, over windows that of the limit inside
abbrev pub any_kind : AnyLimit → LimitKind
any_kind (Plain s) = base_kind s
any_kind (Windowed s) = base_kind s.inner

-- a limit under another greatest one; over windows, of the same numbers before their first sample
abbrev pub any_with_greatest : ℕ → AnyLimit → AnyLimit
any_with_greatest hi (Plain s) = Plain (base_with_greatest hi s)
any_with_greatest hi (Windowed s) =
    Windowed (opened s.settings (base_with_greatest hi s.inner))

-- the rule that a limit has
abbrev pub any_rules : Algorithm AnyLimit
any_rules = record {
  lo = any_lo;
  limit = any_limit;
  hi = any_hi;
  view = any_view;
  next = any_next;
  put = any_put;
  first = any_first;
}

-- a limit over each sample, or over windows of these numbers before their first sample
abbrev pub any_from : BaseLimit → Option WindowNumbers → AnyLimit
any_from base None = Plain base
any_from base (Some w) = Windowed (opened w base)
