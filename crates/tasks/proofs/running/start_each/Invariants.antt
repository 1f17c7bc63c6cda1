use Rattle.std.proofs.Common.{◌≡◌, ◌≤◌, ◌+◌, length, vec_capacity}
use Rattle.std.specs.Prelude.{vec_len}
use Rattle.std.specs.Vec.Iter.{into_iter_items}
use Rattle.tasks.specs.Promised.{tasks_of}
use Rattle.tasks.proofs.running.start_each.Given as goal

-- a thread of each task so far, none was refused, and there is room for the others
abbrev pub invariant-loop-task : goal.invariant-loop-task
invariant-loop-task g l = record {
  each : tasks_of l.handles.items ≡ l.yielded;
  unrefused : l.refused ≡ l.initial.refused;
  room : vec_len l.handles + length (into_iter_items l.task-iterator) ≤ vec_capacity l.handles;
}
