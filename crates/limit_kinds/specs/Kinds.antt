-- The kinds of limit: their list, and what each is called; the limits of all kinds as one, each by
-- its own rule; and the limits that plain numbers make.
use Rattle.std.specs.Prelude.{ℕ, Bool, List, [], ◌∷◌, Option, Result, Ok, Err, bytes_eq, codes, find, map, nat_le, ◌&&◌, if◌then◌else◌}
use Rattle.limit_laws.specs.declared.limit.MakeFault.{MakeFault}
use Rattle.limit_laws.specs.declared.limit.MakeFault.TheVariants.{Range}
use Rattle.limit_laws.specs.declared.limit.SetFault.{SetFault}
use Rattle.limit_laws.specs.declared.view.LimitView.{LimitView}
use Rattle.limit_laws.specs.Facts.{SampleFacts}
use Rattle.limit_laws.specs.Algorithm.{Algorithm, greatest_limit}
use Rattle.limit_laws.specs.FixedRules.{fixed_rules}
use Rattle.limit_laws.specs.SettableRules.{settable_from, settable_rules}
use Rattle.aimd.specs.AimdRules.{aimd_made, aimd_of, aimd_rules, with_greatest as aimd_with_greatest}
use Rattle.vegas.specs.VegasRules.{vegas_made, vegas_of, vegas_rules, with_greatest as vegas_with_greatest}
use Rattle.auto.specs.AutoRules.{auto_from, auto_rules, up_to}
use Rattle.limit_kinds.specs.declared.kinds.LimitKind.{LimitKind}
use Rattle.limit_kinds.specs.declared.kinds.LimitKind.TheVariants as kind
use Rattle.limit_kinds.specs.declared.kinds.BaseLimit.{BaseLimit}
use Rattle.limit_kinds.specs.declared.kinds.BaseLimit.TheVariants.{Fixed, Settable, Aimd, Vegas, Auto}
use Rattle.limit_kinds.specs.declared.kinds.Limits.{Limits}
use Rattle.limit_kinds.specs.declared.kinds.LimitSpec.{LimitSpec}
use Rattle.limit_kinds.specs.declared.kinds.LimitSpec.TheVariants as spec

-- all kinds
abbrev pub kinds : List LimitKind
kinds = kind.Fixed ∷ kind.Settable ∷ kind.Aimd ∷ kind.Vegas ∷ kind.Auto ∷ []

-- what a kind is called
abbrev pub kind_word : LimitKind → List ℕ
kind_word kind.Fixed = codes "fixed"
kind_word kind.Settable = codes "settable"
kind_word kind.Aimd = codes "aimd"
kind_word kind.Vegas = codes "vegas"
kind_word kind.Auto = codes "auto"

-- what the kinds are called
abbrev pub kind_words : List (List ℕ)
kind_words = map kind_word kinds

-- the kind that is called so
abbrev pub kind_named : List ℕ → Option LimitKind
kind_named word = find (λ it. bytes_eq word (kind_word it)) kinds

-- a setting that is taken, in a state of another type
abbrev pub set_in : {S T : Type 0} → (S → T) → Result S SetFault → Result T SetFault
set_in wrap (Ok s) = Ok (wrap s)
set_in wrap (Err fault) = Err fault

abbrev pub base_lo : BaseLimit → ℕ
base_lo (Fixed s) = fixed_rules.lo s
base_lo (Settable s) = settable_rules.lo s
base_lo (Aimd s) = aimd_rules.lo s
base_lo (Vegas s) = vegas_rules.lo s
base_lo (Auto s) = auto_rules.lo s

abbrev pub base_limit : BaseLimit → ℕ
base_limit (Fixed s) = fixed_rules.limit s
base_limit (Settable s) = settable_rules.limit s
base_limit (Aimd s) = aimd_rules.limit s
base_limit (Vegas s) = vegas_rules.limit s
base_limit (Auto s) = auto_rules.limit s

abbrev pub base_hi : BaseLimit → ℕ
base_hi (Fixed s) = fixed_rules.hi s
base_hi (Settable s) = settable_rules.hi s
base_hi (Aimd s) = aimd_rules.hi s
base_hi (Vegas s) = vegas_rules.hi s
base_hi (Auto s) = auto_rules.hi s

abbrev pub base_view : BaseLimit → LimitView
base_view (Fixed s) = fixed_rules.view s
base_view (Settable s) = settable_rules.view s
base_view (Aimd s) = aimd_rules.view s
base_view (Vegas s) = vegas_rules.view s
base_view (Auto s) = auto_rules.view s

abbrev pub base_next : BaseLimit → SampleFacts → BaseLimit
base_next (Fixed s) x = Fixed (fixed_rules.next s x)
base_next (Settable s) x = Settable (settable_rules.next s x)
base_next (Aimd s) x = Aimd (aimd_rules.next s x)
base_next (Vegas s) x = Vegas (vegas_rules.next s x)
base_next (Auto s) x = Auto (auto_rules.next s x)

abbrev pub base_put : BaseLimit → ℕ → Result BaseLimit SetFault
base_put (Fixed s) n = set_in Fixed (fixed_rules.put s n)
base_put (Settable s) n = set_in Settable (settable_rules.put s n)
base_put (Aimd s) n = set_in Aimd (aimd_rules.put s n)
base_put (Vegas s) n = set_in Vegas (vegas_rules.put s n)
base_put (Auto s) n = set_in Auto (auto_rules.put s n)

abbrev pub base_first : BaseLimit → BaseLimit
base_first (Fixed s) = Fixed (fixed_rules.first s)
base_first (Settable s) = Settable (settable_rules.first s)
base_first (Aimd s) = Aimd (aimd_rules.first s)
base_first (Vegas s) = Vegas (vegas_rules.first s)
base_first (Auto s) = Auto (auto_rules.first s)

-- a limit in its first state under another greatest limit, where its samples move it: one that
-- finds itself goes no further than by its own. Others stay
abbrev pub base_with_greatest : ℕ → BaseLimit → BaseLimit
base_with_greatest hi (Aimd s) = Aimd (aimd_with_greatest hi s)
base_with_greatest hi (Vegas s) = Vegas (vegas_with_greatest hi s)
base_with_greatest hi (Auto s) = Auto (up_to hi s)
base_with_greatest hi limit = limit

-- the kind of a limit
abbrev pub base_kind : BaseLimit → LimitKind
base_kind (Fixed s) = kind.Fixed
base_kind (Settable s) = kind.Settable
base_kind (Aimd s) = kind.Aimd
base_kind (Vegas s) = kind.Vegas
base_kind (Auto s) = kind.Auto

-- the rule of the kind that a limit is of
abbrev pub base_rules : Algorithm BaseLimit
base_rules = record {
  lo = base_lo;
  limit = base_limit;
  hi = base_hi;
  view = base_view;
  next = base_next;
  put = base_put;
  first = base_first;
}

-- 1 ≤ lo ≤ first ≤ hi ≤ 10,000
abbrev pub are_limits : Limits → Bool
are_limits n =
    nat_le 1 n.lo && nat_le n.lo n.first && nat_le n.first n.hi && nat_le n.hi greatest_limit

-- the limit of these numbers in its first state
abbrev pub first_limit : LimitSpec → BaseLimit
first_limit (spec.Fixed permits) = Fixed permits
first_limit (spec.Settable n) = Settable (settable_from n.lo n.first n.hi)
first_limit (spec.Aimd n) = Aimd (aimd_of n)
first_limit (spec.Vegas n) = Vegas (vegas_of n)
first_limit (spec.Auto n) = Auto (auto_from n.lo n.first n.hi)

-- what an algorithm makes, as a limit of its kind
abbrev pub of_kind : {S : Type 0} → (S → BaseLimit) → Result S MakeFault →
    Result BaseLimit MakeFault
of_kind wrap (Ok s) = Ok (wrap s)
of_kind wrap (Err fault) = Err fault

-- THE LIMIT of these numbers, or their first fault
abbrev pub limit_made : LimitSpec → Result BaseLimit MakeFault
limit_made (spec.Fixed permits) =
    if nat_le 1 permits && nat_le permits greatest_limit then Ok (Fixed permits)
    else Err Range
limit_made (spec.Settable n) =
    if are_limits n then Ok (first_limit (spec.Settable n)) else Err Range
limit_made (spec.Aimd n) = of_kind Aimd (aimd_made n)
limit_made (spec.Vegas n) = of_kind Vegas (vegas_made n)
limit_made (spec.Auto n) = if are_limits n then Ok (first_limit (spec.Auto n)) else Err Range
