use Rattle.std.proofs.Common.{rules}
use Rattle.std.proofs.lemmas.List.{map-append}
use Rattle.tasks.specs.Promised.{tasks_of}
use Rattle.tasks.proofs.Orders.{one_task_more}
use Rattle.tasks.proofs.running.join_each.Goals as goal

pub loop-handle-preserved : goal.loop-handle-preserved
loop-handle-preserved g c = record {
  all =
      one_task_more g.T.Task.makes (tasks_of c.loop-handle.yielded) c.loop-handle.done.items _ _ _ _
      (map-append _ c.loop-handle.yielded _) c.push_reserved.ensures.items
      c.loop-handle.invariant.all c.join.ensures;
  room = search rules;
}
