-- What is written of a trace, by equal limiters, calls and timeouts.
use Rattle.std.proofs.Common.{◌≡◌, ℕ, List, subst}
use Rattle.trace.specs.declared.arrival.Arrival.{Arrival}
use Rattle.virtual_time.specs.Course.{Limiter, IsRun}

pub same_run : (l m : Limiter) (some others : List Arrival) (t u : ℕ) (out : List ℕ)
    → l ≡ m → some ≡ others → t ≡ u → IsRun l some t out → IsRun m others u out
same_run l m some others t u out limiters calls timeouts run =
    let by_limiter : IsRun m some t out =
    subst (λ (x : Limiter). IsRun x some t out) limiters run in
    let by_calls : IsRun m others t out =
    subst (λ (x : List Arrival). IsRun m x t out) calls by_limiter in
    subst (λ (x : ℕ). IsRun m others x out) timeouts by_calls
