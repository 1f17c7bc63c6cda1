use Rattle.std.proofs.Common.{◌≡◌, ◌≤◌, ◌+◌, length, vec_capacity}
use Rattle.std.specs.Prelude.{vec_len}
use Rattle.std.specs.Vec.Iter.{into_iter_items}
use Rattle.serving.specs.Workers.{AreWithin, tasks_in, workers_in}
use Rattle.serving.proofs.workers.make_jobs.Given as goal

-- the workers so far, in this context, with the tasks beside them, and there is room for the others
abbrev pub invariant-loop-worker : goal.invariant-loop-worker
invariant-loop-worker g l = record {
  all : workers_in l.jobs.items ≡ l.yielded;
  side_tasks : tasks_in l.jobs.items ≡ l.fn.side_tasks.items;
  within : AreWithin l.context l.jobs.items;
  room : vec_len l.jobs + length (into_iter_items l.worker-iterator) ≤ vec_capacity l.jobs;
}
