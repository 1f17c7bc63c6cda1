use Rattle.std.proofs.Common.{take}
use Rattle.shared_gate.specs.Calls.{seen_by}
use Rattle.load_run.specs.Worker.{IsWork}
use Rattle.load_run.proofs.worker.work.Given as goal

-- the receipts and refusals so far are those of the arrivals so far
abbrev pub invariant-loop-place : goal.invariant-loop-place
invariant-loop-place g l =
    IsWork l.context.workers l.number (take l.place l.context.arrivals.now.items) l.receipts.items
    l.refusals.items (seen_by l.pass)
