use Rattle.std.proofs.Common.{◌≤◌, ◌+◌, length, vec_capacity}
use Rattle.std.specs.Prelude.{vec_len}
use Rattle.std.specs.List.{AllZip}
use Rattle.std.specs.Vec.Iter.{into_iter_items}
use Rattle.tasks.specs.Promised.{tasks_of}
use Rattle.tasks.proofs.running.join_each.Given as goal

-- what each task made so far, and there is room for what the others make
abbrev pub invariant-loop-handle : goal.invariant-loop-handle
invariant-loop-handle g l = record {
  all : AllZip g.T.Task.makes (tasks_of l.yielded) l.done.items;
  room : vec_len l.done + length (into_iter_items l.handle-iterator) ≤ vec_capacity l.done;
}
