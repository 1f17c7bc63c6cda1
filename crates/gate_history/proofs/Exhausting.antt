-- Where the history of a refusal is exhausted.
use Rattle.std.proofs.Common.{◌≡◌, ℕ, ◌≤◌, ◌^◌, inl, inr, Bool, true, false, subst}
use Rattle.std.proofs.Common.{arith, true≢false}
use Rattle.std.specs.Prelude.{min, if◌then◌else◌}
use Rattle.gate_ledgers.specs.Making.{Making}
use Rattle.gate_history.specs.Refusal.{IsSpent, exhausted_from}

at : (rolls : Bool) (held kept next : ℕ) → IsSpent held kept rolls next → held ≤ next
    → (if rolls then 2 ^ 62 else min kept (2 ^ 62)) ≤ next
at true held kept next (inl full) few = absurd (true≢false full.0)
at true held kept next (inr last) few = last
at false held kept next (inl full) few = omega (arith, full.1, few)
at false held kept next (inr last) few = omega (arith, last)

pub exhausted_behind : (m : Making) (held kept next : ℕ) (rolls : Bool)
    → IsSpent held kept rolls next → held ≤ next → kept ≡ m.kept → rolls ≡ m.is_rolling
    → exhausted_from m ≤ next
exhausted_behind m held kept next rolls spent few kept_is rolls_is =
    subst (λ (k : ℕ). (if m.is_rolling then 2 ^ 62 else min k (2 ^ 62)) ≤ next) kept_is
    (subst (λ (r : Bool). (if r then 2 ^ 62 else min kept (2 ^ 62)) ≤ next) rolls_is
    (at rolls held kept next spent few))
