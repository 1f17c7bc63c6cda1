-- Worked rows, by computation over the definitions.
use Rattle.std.proofs.Common.{◌≡◌, ℕ, Bool, true, false, Err, refl, arith}
use Rattle.limit_laws.specs.declared.limit.MakeFault.TheVariants.{Range, Ratio}
use Rattle.aimd.specs.declared.numbers.AimdNumbers.{AimdNumbers}
use Rattle.aimd.specs.AimdRules.{AimdState, aimd_from, aimd_made, aimd_next}
use Rattle.aimd.proofs.Decrease.{decreased-quotient}

abbrev numbers : ℕ → ℕ → ℕ → ℕ → ℕ → AimdNumbers
numbers lo first hi ratio timeout = record {
  lo = lo;
  first = first;
  hi = hi;
  ratio_thousandths = ratio;
  timeout_ns = timeout;
}

-- where both the range and the ratio are wrong, the range is named
a_wrong_range_is_named_before_a_wrong_ratio : aimd_made (numbers 1 20 10 400 0) ≡ Err Range
a_wrong_range_is_named_before_a_wrong_ratio = refl

a_wrong_ratio_is_named : aimd_made (numbers 1 5 10 400 1) ≡ Err Ratio
a_wrong_ratio_is_named = refl

-- the limit after one sample of a limit of 20, a ratio of 900 thousandths and a timeout of 1,000 ns
abbrev after : ℕ → ℕ → Bool → ℕ
after rtt inflight dropped =
    let s : AimdState = aimd_from 1 20 100 900 1000 in
    (aimd_next s (record { start = 0; rtt = rtt; inflight = inflight; dropped = dropped })).limit

a_drop_leaves_nine_tenths : after 5 10 true ≡ 18
a_drop_leaves_nine_tenths = omega (arith, decreased-quotient 20 900)

less_than_half_in_use_keeps_the_limit : after 1000 9 false ≡ 20
less_than_half_in_use_keeps_the_limit = refl

half_in_use_raises_the_limit : after 1000 10 false ≡ 21
half_in_use_raises_the_limit = refl

a_round_trip_above_the_timeout_is_a_drop : after 1001 10 false ≡ 18
a_round_trip_above_the_timeout_is_a_drop = omega (arith, decreased-quotient 20 900)
