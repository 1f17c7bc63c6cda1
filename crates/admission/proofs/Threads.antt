-- How many threads serve, by options that lie in their ranges.
use Rattle.std.proofs.Common.{ℕ, ◌≤◌, Option, None, Some, IfSome, unwrap_or, arith}
use Rattle.commands.specs.declared.serve_options.ServeOptions.{ServeOptions}
use Rattle.commands.specs.ServeOptions.{AreWithinRanges, threads_of}

within : (given : Option ℕ) (workers : ℕ) → IfSome given (λ n. (1 ≤ n) × (n ≤ 4096))
    → (1 ≤ workers) × (workers ≤ 64)
    → (1 ≤ unwrap_or given workers) × (unwrap_or given workers ≤ 4096)
within None workers given is = (is.0, omega (arith, is))
within (Some n) workers given is = given

pub threads_within : (o : ServeOptions) → AreWithinRanges o
    → (1 ≤ threads_of o) × (threads_of o ≤ 4096)
threads_within o all = within o.exchanges o.workers all.1.0 all.0
