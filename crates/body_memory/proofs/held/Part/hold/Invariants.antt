use Rattle.std.proofs.Common.{◌≡◌}
use Rattle.body_memory.proofs.held.Part.hold.Given as goal

-- nothing is held yet that wasn't
abbrev pub invariant-loop : goal.invariant-loop
invariant-loop l = l.self ≡ l.initial.self
