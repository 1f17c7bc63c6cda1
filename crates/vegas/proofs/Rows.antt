-- Worked rows, by computation over the definitions.
use Rattle.std.specs.Prelude.{◌≡◌, ℕ, false, List, [], ◌∷◌, Err, fold, refl}
use Rattle.limit_laws.specs.declared.limit.MakeFault.TheVariants.{Alpha}
use Rattle.limit_laws.specs.Facts.{SampleFacts}
use Rattle.vegas.specs.declared.numbers.VegasNumbers.{VegasNumbers}
use Rattle.vegas.specs.VegasRules.{vegas_from, vegas_made, vegas_next, queue}

abbrev numbers : ℕ → ℕ → ℕ → ℕ → ℕ → ℕ → VegasNumbers
numbers lo first hi alpha beta probe_every = record {
  lo = lo;
  first = first;
  hi = hi;
  alpha = alpha;
  beta = beta;
  probe_every = probe_every;
}

an_alpha_above_beta_is_refused : vegas_made (numbers 1 5 10 4 3 0) ≡ Err Alpha
an_alpha_above_beta_is_refused = refl

abbrev sample : ℕ → SampleFacts
sample rtt = record { start = 0; rtt = rtt; inflight = 8; dropped = false }

-- the limit after these round trips in nanoseconds, each with 8 permits in flight, from a limit of
-- 10, with thresholds up to 6
abbrev after : ℕ → ℕ → ℕ → List ℕ → ℕ
after lo alpha probe_every rtts =
    (fold (λ s rtt. vegas_next s (sample rtt))
    (vegas_from lo 10 100 alpha 6 probe_every) rtts).limit

-- of 10 requests 2 wait: 250 / 125
vegas_raises_below_alpha : after 1 3 0 (100 ∷ 125 ∷ []) ≡ 11
unfolding queue
vegas_raises_below_alpha = refl

-- 4 wait: 500 / 150, rounded up
vegas_keeps_from_alpha_to_beta : after 1 3 0 (100 ∷ 150 ∷ []) ≡ 10
unfolding queue
vegas_keeps_from_alpha_to_beta = refl

vegas_keeps_at_alpha : after 1 4 0 (100 ∷ 150 ∷ []) ≡ 10
unfolding queue
vegas_keeps_at_alpha = refl

-- 7 wait: 2000 / 300, rounded up
vegas_lowers_above_beta : after 1 3 0 (100 ∷ 300 ∷ []) ≡ 9
unfolding queue
vegas_lowers_above_beta = refl

vegas_keeps_to_the_least : after 10 3 0 (100 ∷ 300 ∷ []) ≡ 10
unfolding queue
vegas_keeps_to_the_least = refl

-- each second sample is the new base, so the third finds no queue
vegas_probes_set_the_base : after 1 3 2 (100 ∷ 300 ∷ 300 ∷ []) ≡ 11
unfolding queue
vegas_probes_set_the_base = refl
