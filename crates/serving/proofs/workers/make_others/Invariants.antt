use Rattle.std.proofs.Common.{◌≡◌, ◌≤◌, ◌+◌, [], length, vec_capacity}
use Rattle.std.specs.Prelude.{vec_len}
use Rattle.std.specs.Vec.Iter.{into_iter_items}
use Rattle.serving.specs.Workers.{tasks_in, workers_in}
use Rattle.serving.proofs.workers.make_others.Given as goal

-- no worker, the tasks so far, and there is room for the others
abbrev pub invariant-loop-task : goal.invariant-loop-task
invariant-loop-task g l = record {
  none : workers_in l.jobs.items ≡ [];
  side_tasks : tasks_in l.jobs.items ≡ l.yielded;
  room : vec_len l.jobs + length (into_iter_items l.task-iterator) ≤ vec_capacity l.jobs;
}
