use denote.Exit.{no}
use denote.Param.Send.{arg_send, param_send}
use Rattle.serving.proofs.jobs.Job.TheSendSync as Job
use Rattle.serving.proofs.SharedSettings.{context_sync}
use Rattle.serving.proofs.JobLists.{all_made, all_worked}
use Rattle.serving.proofs.workers.serve_by.Goals as goal

pub returns-clause-worked : goal.returns-clause-worked
returns-clause-worked g c =
    all_worked _ g.T.Task.makes _ c.args.workers.items c.in_ok-jobs.jobs.items
    c.in_ok-lefts.lefts.items c.in_ok-jobs.ensures.all c.in_ok-lefts.ensures.made
    c.in_ok-jobs.ensures.within

pub returns-clause-side_tasks : goal.returns-clause-side_tasks
returns-clause-side_tasks g c =
    all_made _ g.T.Task.makes c.args.side_tasks.items c.in_ok-jobs.jobs.items
    c.in_ok-lefts.lefts.items c.in_ok-jobs.ensures.side_tasks c.in_ok-lefts.ensures.made

-- what each thread takes along may be sent: the settings that it shares may be shared
pub run_tasks_beside-requires-send-T : goal.run_tasks_beside-requires-send-T
run_tasks_beside-requires-send-T g c κs within =
    param_send 2 _ (arg_send _ no _ (Job.the_send _ _ _ _ _ _ c.type_bounds.send-A
    c.type_bounds.send-P c.type_bounds.send-B c.type_bounds.send-T
    (context_sync _ _ _ _ _ _ c.type_bounds.sync-R c.type_bounds.sync-L c.type_bounds.sync-E
    c.type_bounds.sync-C c.type_bounds.sync-W)))
