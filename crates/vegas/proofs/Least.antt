-- The estimated queue is a quotient rounded up.
use Rattle.std.proofs.Common.{◌≡◌, ℕ, zero, suc, ◌+◌, ◌-◌, ◌*◌, ◌/◌, ◌%◌, ◌≤◌, ◌<◌, Bool, true, false, inl, inr, Some, arith, min, find, unwrap_or, nat_le, mul-le-mul_left, mul-le-mul_right, ap}
use Rattle.std.proofs.Math.Nat.{add-mul}
use Rattle.std.specs.List.{range_with_len}
use Rattle.std.proofs.lemmas.Bool.{cases_lt, le-leb, lt-leb}
use Rattle.std.proofs.lemmas.Grind.{div_ceil_times}
use Rattle.vegas.specs.VegasRules.{queue}
use Rattle.vegas.specs.Queues.{EstimatesTheLeastQueue}

-- the first of a, a + 1, .. that passes is q, where q is among them and passes, and none before
-- it does
find-range : (test : ℕ → Bool) (n a q : ℕ) → a ≤ q → q < a + n → test q ≡ true →
    ((k : ℕ) → a ≤ k → k < q → test k ≡ false) → find test (range_with_len a n) ≡ Some q
find-range test zero a q low high passes before = absurd (omega arith)
find-range test (suc n) a q low high passes before = elim (cases_lt a q) [
  | inl less ↦
      let e : test a ≡ false = before a (omega arith) less in
      rw e (find-range test n (a + 1) q (omega arith) (omega arith) passes
      (λ k l h. before k (omega arith) h))
  | inr more ↦
      let same : q ≡ a = omega arith in
      let e : test a ≡ true = rw same at passes in
      rw (e, same)
]

-- n / d, rounded up
abbrev pub rounded_up : ℕ → ℕ → ℕ
rounded_up n d = n / d + min 1 (n % d)

-- no number below it is enough
below_rounded_up : (n d k : ℕ) → 1 ≤ d → k < rounded_up n d → k * d < n
below_rounded_up n d k positive h =
    let ceiling = div_ceil_times n d positive in
    let more : (k + 1) * d ≤ rounded_up n d * d = mul-le-mul_right d (omega arith) in
    let parts = add-mul k 1 d in
    omega (arith, ceiling.1, more, parts)

rounded_up_most : (limit rtt base : ℕ) → 1 ≤ rtt → rounded_up (limit * (rtt - base)) rtt ≤ limit
rounded_up_most limit rtt base positive =
    elim (cases_lt limit (rounded_up (limit * (rtt - base)) rtt)) [
      | inl less ↦
          let below = below_rounded_up (limit * (rtt - base)) rtt limit positive less in
          let products : limit * (rtt - base) ≤ limit * rtt = mul-le-mul_left limit (omega arith) in
          absurd (omega (arith, below, products))
      | inr h ↦ h
    ]

pub queue-rounded_up : (limit rtt base : ℕ) → 1 ≤ rtt →
    queue limit rtt base ≡ rounded_up (limit * (rtt - base)) rtt
unfolding queue
queue-rounded_up limit rtt base positive =
    let n : ℕ = limit * (rtt - base) in
    let q : ℕ = rounded_up n rtt in
    let test : ℕ → Bool = λ q. nat_le n (q * rtt) in
    let most : q ≤ limit = rounded_up_most limit rtt base positive in
    let enough : test q ≡ true = le-leb _ _ (div_ceil_times n rtt positive).0 in
    let found =
    find-range test (limit + 1) 0 q (omega arith) (omega arith) enough
    (λ k l h. lt-leb _ _ (below_rounded_up n rtt k positive h)) in
    ap (λ o. unwrap_or o limit) found

pub ruleset queues = queue-rounded_up

pub queue_is_least : EstimatesTheLeastQueue
queue_is_least limit rtt base positive =
    let n : ℕ = limit * (rtt - base) in
    rw (queue-rounded_up limit rtt base positive) (
      (div_ceil_times n rtt positive).0,
      λ q enough. elim (cases_lt q (rounded_up n rtt)) [
        | inl less ↦ let below = below_rounded_up n rtt q positive less in
            absurd (omega (arith, below, enough))
        | inr h ↦ h
      ],
    )

no_times : (a b : ℕ) → a * (b - b) ≡ 0
no_times a b =
    let e : b - b ≡ 0 = omega arith in
    rw e (omega arith)

-- at the base there is no queue
pub queue-at_base : (limit rtt : ℕ) → queue limit rtt rtt ≡ 0
unfolding queue
queue-at_base limit rtt =
    let enough : nat_le (limit * (rtt - rtt)) (0 * rtt) ≡ true =
    le-leb _ _ (omega (arith, no_times limit rtt)) in
    let none : (k : ℕ) → 0 ≤ k → k < 0 → nat_le (limit * (rtt - rtt)) (k * rtt) ≡ false =
    λ k l h. absurd (omega (arith, h)) in
    let found =
    find-range (λ q. nat_le (limit * (rtt - rtt)) (q * rtt)) (limit + 1) 0 0 (omega arith)
    (omega arith) enough none in
    ap (λ o. unwrap_or o limit) found
