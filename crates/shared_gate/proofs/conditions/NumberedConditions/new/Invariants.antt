use Rattle.std.proofs.Common.{◌≡◌, ◌≤◌, vec_capacity}
use Rattle.std.specs.Prelude.{vec_len}
use Rattle.shared_gate.proofs.conditions.NumberedConditions.new.Given as goal

-- so many conditions so far, and there is room for the others
abbrev pub invariant-loop : goal.invariant-loop
invariant-loop l = record {
  made : vec_len l.conditions ≡ l.counter;
  room : 1024 ≤ vec_capacity l.conditions;
}
