use Rattle.std.proofs.lemmas.Result.{IfOk-weaker}
use Rattle.serving.specs.Workers.{ended_in}
use Rattle.serving.proofs.WorkerRuns.{all_ran}
use Rattle.serving.proofs.workers.serve.Goals as goal

pub returns-clause-ran : goal.returns-clause-ran
returns-clause-ran g c = IfOk-weaker c.serve_by.result _ _
    (λ lefts all. all_ran g.L.Listener.came g.L.Listener.found g.L.Listener.roll
    g.P.GatePort.shown g.P.GatePort.known
    c.args.common.now c.args.common.now.settings.now.backend c.args.ports.items
    c.in_ok-workers.workers.items (ended_in lefts.items)
    c.in_ok-workers.ensures.workers all)
    c.serve_by.ensures.worked
