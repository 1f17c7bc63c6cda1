use Rattle.std.proofs.Common.{◌≡◌, ◌≤◌, ◌+◌, length, vec_capacity}
use Rattle.std.specs.Prelude.{vec_len}
use Rattle.std.specs.Vec.Iter.{into_iter_items}
use Rattle.load_run.proofs.making.make_workers.Given as goal

-- one for each pass so far, and there is room for the others
abbrev pub invariant-loop-pass : goal.invariant-loop-pass
invariant-loop-pass g l = record {
  all : vec_len l.workers + length (into_iter_items l.pass-iterator)
      ≡ length (into_iter_items l.initial.pass-iterator);
  room : vec_len l.workers + length (into_iter_items l.pass-iterator) ≤ vec_capacity l.workers;
}
