use Rattle.std.proofs.Common.{rules, ◌∙◌, ◌++◌, ◌∷◌, [], ap, refl}
use Rattle.serving.specs.Workers.{tasks_in, workers_in}
use Rattle.serving.proofs.JobLists.{no_worker, one_task}
use Rattle.serving.proofs.workers.make_others.Goals as goal

pub loop-task-preserved : goal.loop-task-preserved
loop-task-preserved g c = record {
  none = ap workers_in c.push_reserved.ensures.items
      ∙ no_worker c.loop-task.jobs.items _ refl ∙ c.loop-task.invariant.none;
  side_tasks = ap tasks_in c.push_reserved.ensures.items
      ∙ one_task c.loop-task.jobs.items _ c.in-Some.task refl
      ∙ ap (λ ts. ts ++ c.in-Some.task ∷ []) c.loop-task.invariant.side_tasks;
  room = search rules;
}
