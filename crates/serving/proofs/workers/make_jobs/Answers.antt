use Rattle.std.proofs.Common.{rules, ◌∙◌, ◌++◌, ◌∷◌, [], ap, refl, subst, sym}
use Rattle.serving.specs.Workers.{AreWithin, tasks_in, workers_in}
use Rattle.serving.proofs.JobLists.{no_task, none_within, one_within, one_worker}
use Rattle.serving.proofs.workers.make_jobs.Goals as goal

pub loop-worker-init : goal.loop-worker-init
loop-worker-init g c = record {
  all = search rules;
  side_tasks = search rules;
  within = none_within _ c.reserve.new.self.items (search rules);
  room = search rules;
}

pub loop-worker-preserved : goal.loop-worker-preserved
loop-worker-preserved g c = record {
  all = ap workers_in c.push_reserved.ensures.items
      ∙ one_worker c.loop-worker.jobs.items _ c.in-Some.worker refl
      ∙ ap (λ ws. ws ++ c.in-Some.worker ∷ []) c.loop-worker.invariant.all;
  side_tasks = ap tasks_in c.push_reserved.ensures.items ∙ no_task c.loop-worker.jobs.items _ refl
      ∙ c.loop-worker.invariant.side_tasks;
  within = subst (AreWithin c.args.context.now) (sym c.push_reserved.ensures.items)
      (one_within _ c.loop-worker.jobs.items _ c.loop-worker.invariant.within (refl, tt));
  room = search rules;
}
