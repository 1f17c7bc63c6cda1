-- At the base a limit never falls.
use Rattle.std.proofs.Common.{◌≡◌, ℕ, ◌+◌, ◌*◌, ◌≤◌, Bool, true, false, Option, Some, None, IfSome, List, [], ◌∷◌, ◌++◌, All, fold, arith, min, max, unwrap_or, nat_lt, ◌||◌, if◌then◌else◌, sym, ◌∙◌}
use Rattle.std.proofs.lemmas.Bool.{lt-ltb}
use Rattle.std.proofs.lemmas.List.Elements.{All-head, All-tail}
use Rattle.limit_laws.specs.Facts.{SampleFacts}
use Rattle.limit_laws.specs.Algorithm.{IsWithin}
use Rattle.vegas.specs.VegasRules.{VegasState, vegas_rules, vegas_next, probes, is_new_base, measured, count_after, by_queue}
use Rattle.vegas.specs.VegasLaws.{next_follows}
use Rattle.vegas.specs.Queues.{IsAtBase, NeverFallsAtTheBase}
use Rattle.vegas.proofs.Least.{queue-at_base}

pub raised : (s : VegasState) → 1 ≤ s.alpha → by_queue s 0 ≡ s.limit + 1
raised s h = rw (lt-ltb 0 s.alpha h)

by_use : (s : VegasState) (free : Bool) (n : ℕ) → n ≡ s.limit + 1 →
    s.limit ≤ (if free then s.limit else n)
by_use s true n e = omega arith
by_use s false n e = omega arith

measured_least : (s : VegasState) (base : ℕ) (x : SampleFacts) → 1 ≤ s.alpha → IsAtBase base x →
    s.limit ≤ measured s base x
measured_least s base x a h =
    rw (h.success, h.rtt, queue-at_base s.limit base)
    (by_use s (nat_lt (2 * x.inflight) s.limit) (by_queue s 0) (raised s a))

-- what the samples before have left: bounds, a threshold, and no other base than this
record IsReady (base : ℕ) (s : VegasState) : Type 0 where
  within : IsWithin vegas_rules s
  alpha : 1 ≤ s.alpha
  same : IfSome s.base (λ b. b ≡ base)

abbrev chosen : VegasState → SampleFacts → Bool → ℕ → ℕ → VegasState
chosen s x anew limit count =
    if anew then record s { base = Some x.rtt; count = count }
    else record s { limit = limit; count = count }

chosen_least : (s : VegasState) (x : SampleFacts) (anew : Bool) (limit count : ℕ) →
    s.limit ≤ limit → s.limit ≤ (chosen s x anew limit count).limit
chosen_least s x true limit count h = omega arith
chosen_least s x false limit count h = h

chosen_alpha : (s : VegasState) (x : SampleFacts) (anew : Bool) (limit count : ℕ) → 1 ≤ s.alpha →
    1 ≤ (chosen s x anew limit count).alpha
chosen_alpha s x true limit count h = h
chosen_alpha s x false limit count h = h

chosen_same : (s : VegasState) (x : SampleFacts) (anew : Bool) (limit count base : ℕ) →
    x.rtt ≡ base → IfSome s.base (λ b. b ≡ base) →
    IfSome (chosen s x anew limit count).base (λ b. b ≡ base)
chosen_same s x true limit count base e h = e
chosen_same s x false limit count base e h = h

-- by whether the sample is a probe, and the base before it
least_by : (s : VegasState) (x : SampleFacts) (base count : ℕ) (probe : Bool) (o : Option ℕ) →
    IsReady base s → IsAtBase base x → IfSome o (λ b. b ≡ base) →
    s.limit ≤ (chosen s x (probe || is_new_base o x.rtt)
    (min (max (measured s (unwrap_or o 0) x) s.lo) s.hi) count).limit
least_by s x base count true o r at same = omega arith
least_by s x base count false None r at same = omega arith
least_by s x base count false (Some b) r at same =
    let measured' : s.limit ≤ measured s b x =
    measured_least s b x r.alpha (record { rtt = at.rtt ∙ sym same; success = at.success }) in
    chosen_least s x (nat_lt x.rtt b) _ count (omega (arith, measured', r.within.most))

next_least : (s : VegasState) (x : SampleFacts) (base : ℕ) → IsReady base s → IsAtBase base x →
    s.limit ≤ (vegas_next s x).limit
next_least s x base r at = least_by s x base (count_after s) (probes s) s.base r at r.same

next_ready : (s : VegasState) (x : SampleFacts) (base : ℕ) → IsReady base s → IsAtBase base x →
    IsReady base (vegas_next s x)
next_ready s x base r at =
    let anew = probes s || is_new_base s.base x.rtt in
    let m = measured s (unwrap_or s.base 0) x in
    record {
      within = (next_follows s anew m x.rtt (count_after s) r.within).within;
      alpha = chosen_alpha s x anew (min (max m s.lo) s.hi) (count_after s) r.alpha;
      same = chosen_same s x anew (min (max m s.lo) s.hi) (count_after s) base at.rtt r.same;
    }

rises : (base : ℕ) (s : VegasState) (ys : List SampleFacts) → IsReady base s →
    All (IsAtBase base) ys → s.limit ≤ (fold vegas_next s ys).limit
rises base s [] r all = omega arith
rises base s (y ∷ ys) r all =
    let at = All-head (IsAtBase base) y ys all in
    let first = next_least s y base r at in
    let rest =
    rises base (vegas_next s y) ys (next_ready s y base r at)
    (All-tail (IsAtBase base) y ys all) in
    omega (arith, first, rest)

rises_later : (base : ℕ) (s : VegasState) (xs ys : List SampleFacts) → IsReady base s →
    All (IsAtBase base) (xs ++ ys) →
    (fold vegas_next s xs).limit ≤ (fold vegas_next s (xs ++ ys)).limit
rises_later base s [] ys r all = rises base s ys r all
rises_later base s (x ∷ xs) ys r all =
    rises_later base (vegas_next s x) xs ys
    (next_ready s x base r (All-head (IsAtBase base) x (xs ++ ys) all))
    (All-tail (IsAtBase base) x (xs ++ ys) all)

pub never_falls : NeverFallsAtTheBase
never_falls s base xs ys within alpha same all =
    rises_later base s xs ys (record { within = within; alpha = alpha; same = same }) all
