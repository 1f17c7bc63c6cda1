use Rattle.std.proofs.Common.{◌≡◌, ◌<◌, ℕ, slice_index_or}
use mathlib.Core.List.{IsPrefix}
use Rattle.shared_gate.specs.Calls.{Pass}
use Rattle.shared_gate.proofs.gate.SharedGate.gather.Given as goal

-- the others are as they were, and what the pass knows begins with what it knew and with what each
-- of those so far knows
abbrev pub invariant-loop-other : goal.invariant-loop-other
invariant-loop-other g l =
    (l.other-items ≡ l.initial.other-items) × IsPrefix l.initial.pass.log l.pass.log
    × ((k : ℕ) (d : Pass) → k < l.other-index
    → IsPrefix (slice_index_or l.other-items k d).log l.pass.log)
    × (l.pass.count ≡ l.initial.pass.count) × (l.pass.own ≡ l.initial.pass.own)
