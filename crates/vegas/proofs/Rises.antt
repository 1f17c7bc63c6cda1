-- At the base a limit in use rises.
use Rattle.std.proofs.Common.{◌≡◌, ℕ, ◌+◌, ◌*◌, ◌≤◌, inl, inr, false, Some, List, [], ◌∷◌, fold, arith, min, max, nat_eq, nat_le, nat_lt, refl, ap, subst}
use Rattle.std.proofs.lemmas.Bool.{le-ltb, lt-leb, eq-eqb, ne_eqb}
use Rattle.std.proofs.lemmas.List.Elements.{All-head, All-tail}
use Rattle.limit_laws.specs.Facts.{SampleFacts}
use Rattle.limit_laws.specs.Algorithm.{IsWithin}
use Rattle.vegas.specs.VegasRules.{VegasState, vegas_rules, vegas_next, probes, measured, count_after}
use Rattle.vegas.specs.VegasLaws.{state_within}
use Rattle.vegas.specs.Queues.{IsAtBase, HasNoProbe, RisesAtTheBase}
use Rattle.vegas.proofs.Least.{queue-at_base}
use Rattle.vegas.proofs.AtBase.{raised}

measured_raised : (s : VegasState) (base : ℕ) (x : SampleFacts) → 1 ≤ s.alpha → IsAtBase base x →
    s.limit ≤ 2 * x.inflight → measured s base x ≡ s.limit + 1
measured_raised s base x a at half =
    let used : nat_lt (2 * x.inflight) s.limit ≡ false = le-ltb (2 * x.inflight) s.limit half in
    rw (at.success, used, at.rtt, queue-at_base s.limit base) (raised s a)

-- the state after one of them
abbrev raised_to : VegasState → ℕ → ℕ → VegasState
raised_to s last count =
    record s { limit = min s.hi (s.limit + 1); last = last; count = count }

next_raised : (s : VegasState) (base : ℕ) (x : SampleFacts) → IsWithin vegas_rules s →
    1 ≤ s.alpha → s.base ≡ Some base → probes s ≡ false → IsAtBase base x →
    s.limit ≤ 2 * x.inflight → vegas_next s x ≡ raised_to s x.rtt (count_after s)
next_raised s base x w a known no_probe at half =
    let same : nat_lt x.rtt base ≡ false = le-ltb x.rtt base (omega (arith, at.rtt)) in
    let more = measured_raised s base x a at half in
    let bounded : min (max (measured s base x) s.lo) s.hi ≡ min s.hi (s.limit + 1) =
    omega (arith, more, w.least) in
    rw (no_probe, known, same)
    (ap (λ n. record s {
      limit = n;
      base = Some base;
      last = x.rtt;
      count = count_after s;
    }) bounded)

no_probe_now : (s : VegasState) (x : SampleFacts) (xs : List SampleFacts) →
    HasNoProbe s (x ∷ xs) → probes s ≡ false
no_probe_now s x xs (inl never) = rw (eq-eqb s.probe_every 0 never) refl
no_probe_now s x xs (inr later) =
    let some : nat_eq s.probe_every 0 ≡ false =
    ne_eqb s.probe_every 0 (λ e. omega (arith, e, later)) in
    let early : nat_le s.probe_every (s.count + 1) ≡ false =
    lt-leb s.probe_every (s.count + 1) (omega (arith, later)) in
    rw (some, early) refl

no_probe_later : (s : VegasState) (x : SampleFacts) (xs : List SampleFacts) →
    HasNoProbe s (x ∷ xs) → HasNoProbe (raised_to s x.rtt (count_after s)) xs
no_probe_later s x xs (inl never) = inl never
no_probe_later s x xs (inr later) =
    let some : nat_eq s.probe_every 0 ≡ false =
    ne_eqb s.probe_every 0 (λ e. omega (arith, e, later)) in
    let early : nat_le s.probe_every (s.count + 1) ≡ false =
    lt-leb s.probe_every (s.count + 1) (omega (arith, later)) in
    rw (some, early) (inr (omega (arith, later)))

pub run_raised : RisesAtTheBase
run_raised s base [] w a known none all used = omega (arith, w.most)
run_raised s base (x ∷ xs) w a known none all used =
    let at = All-head (IsAtBase base) x xs all in
    let first =
    next_raised s base x w a known (no_probe_now s x xs none) at (used [] x xs refl) in
    let t : VegasState = raised_to s x.rtt (count_after s) in
    let within =
    state_within s t.limit s.base t.last t.count w (omega (arith, w.least, w.most)) (omega arith) in
    let rest =
    run_raised t base xs within.within a known (no_probe_later s x xs none)
    (All-tail (IsAtBase base) x xs all)
    (λ before y later e. subst (λ u. (fold vegas_next u before).limit ≤ 2 * y.inflight) first
    (used (x ∷ before) y later (ap (λ ys. x ∷ ys) e))) in
    let same : (fold vegas_next s (x ∷ xs)).limit ≡ (fold vegas_next t xs).limit =
    ap (λ u. (fold vegas_next u xs).limit) first in
    omega (arith, same, rest)
