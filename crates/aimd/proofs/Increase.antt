-- What samples in time add to a limit.
use Rattle.std.proofs.Common.{◌≡◌, ◌+◌, ◌*◌, ◌≤◌, false, true, [], ◌∷◌, min, refl, ap, arith, nat_le, nat_lt}
use Rattle.std.proofs.lemmas.Bool.{le-leb, le-ltb}
use Rattle.std.proofs.lemmas.List.Elements.{All-head, All-tail}
use Rattle.limit_laws.specs.Facts.{SampleFacts}
use Rattle.limit_laws.specs.Algorithm.{IsWithin}
use Rattle.aimd.specs.AimdRules.{AimdState, aimd_rules, aimd_step, aimd_next}
use Rattle.aimd.specs.Rises.{IsInTime, RisesByOneASample}
use Rattle.aimd.specs.AimdLaws.{bounded_within}

next_raised : (s : AimdState) (x : SampleFacts) → IsWithin aimd_rules s → IsInTime s.timeout x →
    s.limit ≤ 2 * x.inflight → (aimd_next s x).limit ≡ min s.hi (s.limit + 1)
next_raised s x w at half =
    let in_time : nat_lt s.timeout x.rtt ≡ false = le-ltb s.timeout x.rtt at.rtt in
    let used : nat_le s.limit (2 * x.inflight) ≡ true = le-leb s.limit (2 * x.inflight) half in
    rw (at.success, in_time, used) (omega (arith, w.least))

pub run_raised : RisesByOneASample
run_raised s [] w in_time used = omega (arith, w.most)
run_raised s (x ∷ xs) w in_time used =
    let at = All-head (IsInTime s.timeout) x xs in_time in
    let first = next_raised s x w at (used [] x xs refl) in
    let rest =
    run_raised (aimd_next s x) xs (bounded_within s (aimd_step s x) w).within
    (All-tail (IsInTime s.timeout) x xs in_time)
    (λ before y later e. used (x ∷ before) y later (ap (λ ys. x ∷ ys) e)) in
    omega (arith, first, rest)
