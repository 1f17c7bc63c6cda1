use Rattle.std.proofs.Common.{◌≡◌, ◌≤◌, ◌+◌, ◌++◌, length, map, vec_capacity}
use Rattle.std.specs.Prelude.{vec_len}
use Rattle.std.specs.Vec.Iter.{into_iter_items}
use Rattle.shared_gate.specs.Calls.{pass_of}
use Rattle.shared_gate.proofs.pass.with_readers.Given as goal

-- the passes so far have readers, there is room for the others, and the keeper is as it was
abbrev pub invariant-loop-pass : goal.invariant-loop-pass
invariant-loop-pass g l = record {
  keeper : l.keeper ≡ l.initial.keeper;
  all : l.yielded ++ into_iter_items l.pass-iterator ≡ into_iter_items l.initial.pass-iterator;
  made : l.made.items ≡ map pass_of l.yielded;
  room : vec_len l.made + length (into_iter_items l.pass-iterator) ≤ vec_capacity l.made;
}
