-- What drops leave of a limit.
use Rattle.std.proofs.Common.{◌≡◌, ℕ, zero, suc, ◌+◌, ◌*◌, ◌/◌, ◌≤◌, Bool, true, false, [], ◌∷◌, length, arith, if◌then◌else◌, nat_le, nat_lt, ◌||◌, mul-le-mul_right, mul-le-mul_left}
use Rattle.std.proofs.lemmas.Bool.{le-leb, lt-leb}
use Rattle.lemmas.specs.Extremes.{greatest}
use Rattle.lemmas.proofs.Extremes.{greatest-is}
use Rattle.limit_laws.specs.Facts.{SampleFacts}
use Rattle.aimd.specs.AimdRules.{AimdState, aimd_step, aimd_next, decreased}
use Rattle.aimd.specs.Falls.{DecreasesToTheGreatest, after_drops, FallsByTheRatioAtMost, FallsNoFasterThanDrops}
use Rattle.aimd.specs.AimdLaws.{bounded_within}

-- the greatest m with 1000 * m ≤ n is the quotient
greatest-quotient : (n : ℕ) → greatest (λ m. nat_le (1000 * m) n) n ≡ n / 1000
greatest-quotient n =
    greatest-is _ n (n / 1000) (omega arith) (λ _. le-leb _ _ (omega arith))
    (λ k a b. lt-leb _ _ (omega arith))

pub decreased-quotient : (limit ratio : ℕ) → decreased limit ratio ≡ limit * ratio / 1000
unfolding decreased
decreased-quotient limit ratio = greatest-quotient (limit * ratio)

-- both halves of the greatest
pub decrease_is : DecreasesToTheGreatest
decrease_is limit ratio =
    let quotient = decreased-quotient limit ratio in
    record { fits = omega (arith, quotient); greatest = omega (arith, quotient) }

pub ruleset decreases = decreased-quotient

decreased-le : (a b ratio : ℕ) → a ≤ b → decreased a ratio ≤ decreased b ratio
decreased-le a b ratio h =
    let products : a * ratio ≤ b * ratio = mul-le-mul_right ratio h in
    omega (arith, decreased-quotient a ratio, decreased-quotient b ratio)

-- by the two tests of a step
step_least : (s : AimdState) (x : SampleFacts) (m : ℕ) (dropped used : Bool) → m ≤ s.limit →
    m ≤ decreased s.limit s.ratio →
    m ≤ (if dropped then decreased s.limit s.ratio else (if used then s.limit + 1 else s.limit))
step_least s x m true used h d = d
step_least s x m false true h d = omega arith
step_least s x m false false h d = h

pub next_least : FallsByTheRatioAtMost
next_least s x w ratio m fits =
    let products : s.limit * s.ratio ≤ s.limit * 1000 = mul-le-mul_left s.limit ratio in
    let below : m ≤ s.limit = omega arith in
    let left : m ≤ decreased s.limit s.ratio = omega (arith, decreased-quotient s.limit s.ratio) in
    let step : m ≤ aimd_step s x =
    step_least s x m (x.dropped || nat_lt s.timeout x.rtt) (nat_le s.limit (2 * x.inflight))
    below left in
    omega (arith, w.most)

after_drops-le : (n a b ratio : ℕ) → a ≤ b → after_drops a ratio n ≤ after_drops b ratio n
after_drops-le zero a b ratio h = h
after_drops-le (suc n) a b ratio h = after_drops-le n _ _ ratio (decreased-le a b ratio h)

pub run_least : FallsNoFasterThanDrops
run_least s [] w ratio = omega arith
run_least s (x ∷ xs) w ratio =
    let products : 1000 * decreased s.limit s.ratio ≤ s.limit * s.ratio =
    omega (arith, decreased-quotient s.limit s.ratio) in
    let first = next_least s x w ratio (decreased s.limit s.ratio) products in
    let slower = after_drops-le (length xs) _ _ s.ratio first in
    let rest = run_least (aimd_next s x) xs (bounded_within s (aimd_step s x) w).within ratio in
    omega (arith, slower, rest)
