-- A limit that takes what is left of a number of exchanges.
use Rattle.std.proofs.Common.{◌≡◌, ℕ, ◌+◌, ◌≤◌, Bool, true, refl, sym, true≢false, arith, nat_le}
use Rattle.std.proofs.lemmas.Bool.{le-leb, leb-true}
use Rattle.limit_laws.specs.Algorithm.{IsWithin, greatest_limit}
use Rattle.limit_kinds.specs.AnyKinds.{any_kind, any_rules, any_with_greatest}
use Rattle.limit_kinds.specs.declared.kinds.AnyLimit.{AnyLimit}
use Rattle.limit_kinds.specs.declared.kinds.AnyLimit.TheVariants.{Plain, Windowed}
use Rattle.limit_kinds.specs.Kinds.{base_kind, base_rules, base_with_greatest}
use Rattle.limit_kinds.specs.declared.kinds.BaseLimit.{BaseLimit}
use Rattle.limit_kinds.specs.declared.kinds.BaseLimit.TheVariants.{Fixed, Settable, Aimd, Vegas, Auto}
use Rattle.partitions.specs.Table.{bound}
use Rattle.gateway_settings.specs.declared.settings.Settings.{Settings}
use Rattle.gateway_settings.specs.Exchanges.{greatest_hi, takes_rest, waiting_for, wanted}
use Rattle.gateway_settings.proofs.Greatest.{greatest-le, greatest-passes}

-- as far as the limit goes at all
abbrev furthest : AnyLimit → ℕ
furthest limit = any_rules.hi (any_with_greatest greatest_limit limit)

-- a limit has another greatest one, where that is in its range
base_exactly : (omitted : Bool) (limit : BaseLimit) (hi : ℕ) →
    takes_rest omitted (base_kind limit) ≡ true → base_rules.lo limit ≤ hi →
    hi ≤ base_rules.hi (base_with_greatest greatest_limit limit) →
    base_rules.hi (base_with_greatest greatest_limit limit) ≤ greatest_limit →
    base_rules.hi (base_with_greatest hi limit) ≡ hi
base_exactly omitted (Fixed s) hi takes above below small = absurd (true≢false (sym takes))
base_exactly omitted (Settable s) hi takes above below small = absurd (true≢false (sym takes))
base_exactly omitted (Aimd s) hi takes above below small = omega (arith, above, below, small)
base_exactly omitted (Vegas s) hi takes above below small = omega (arith, above, below, small)
base_exactly omitted (Auto s) hi takes above below small = omega (arith, above, below, small)

exactly : (omitted : Bool) (limit : AnyLimit) (hi : ℕ) →
    takes_rest omitted (any_kind limit) ≡ true → any_rules.lo limit ≤ hi → hi ≤ furthest limit →
    furthest limit ≤ greatest_limit → any_rules.hi (any_with_greatest hi limit) ≡ hi
exactly omitted (Plain s) hi takes above below small =
    base_exactly omitted s hi takes above below small
exactly omitted (Windowed s) hi takes above below small =
    base_exactly omitted s.inner hi takes above below small

-- its least limit stays
base_least : (limit : BaseLimit) (hi : ℕ) →
    base_rules.lo (base_with_greatest hi limit) ≡ base_rules.lo limit
base_least (Fixed s) hi = refl
base_least (Settable s) hi = refl
base_least (Aimd s) hi = refl
base_least (Vegas s) hi = refl
base_least (Auto s) hi = refl

same_least : (limit : AnyLimit) (hi : ℕ) →
    any_rules.lo (any_with_greatest hi limit) ≡ any_rules.lo limit
same_least (Plain s) hi = base_least s hi
same_least (Windowed s) hi = base_least s.inner hi

-- where the least limit is served, so is the greatest that is found
pub served : (n : ℕ) (s : Settings) →
    IsWithin any_rules (any_with_greatest greatest_limit s.limit) →
    takes_rest s.omitted.limit_max (any_kind s.limit) ≡ true →
    wanted n s (any_rules.lo s.limit) ≤ n →
    bound s.table (any_rules.hi (any_with_greatest (greatest_hi n s) s.limit))
    + waiting_for n s + 1 ≤ n
served n s w takes enough =
    let test : ℕ → Bool = λ hi. nat_le (wanted n s hi) n in
    let lo : ℕ = any_rules.lo s.limit in
    let same : any_rules.lo (any_with_greatest greatest_limit s.limit) ≡ lo =
    same_least s.limit greatest_limit in
    let reached : lo ≤ furthest s.limit = omega (arith, same, w.least, w.most) in
    let least : test lo ≡ true = le-leb (wanted n s lo) n enough in
    let found = greatest-passes test (furthest s.limit) lo reached least in
    let e : any_rules.hi (any_with_greatest (greatest_hi n s) s.limit) ≡ greatest_hi n s =
    exactly s.omitted.limit_max s.limit (greatest_hi n s) takes found.0
    (greatest-le test (furthest s.limit)) w.small in
    rw e (leb-true (wanted n s (greatest_hi n s)) n found.1)
