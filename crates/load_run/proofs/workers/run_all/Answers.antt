use Rattle.std.proofs.Common.{rules, ◌≡◌, IfOk, length, subst}
use Rattle.std.proofs.lemmas.Slice.Zip.{AllZip-long}
use Rattle.shared_gate.specs.Calls.{seen_by}
use Rattle.load_run.specs.Worker.{IsWork}
use Rattle.load_run.proofs.Gathering.{all_work}
use Rattle.load_run.proofs.workers.run_all.Goals as goal

pub returns-clause-count : goal.returns-clause-count
returns-clause-count g c =
    let long : length c.in_ok-done.done.items ≡ length c.in-Ok.hands.items =
    AllZip-long _ _ _ c.in_ok-done.ensures.made in
    search rules

pub returns-clause-passes : goal.returns-clause-passes
returns-clause-passes g c =
    let long : length c.in_ok-done.done.items ≡ length c.in-Ok.hands.items =
    AllZip-long _ _ _ c.in_ok-done.ensures.made in
    search rules

pub returns-clause-work : goal.returns-clause-work
returns-clause-work g c =
    let kept = c.in-Ok-gather.worked.kept.items in
    let done = c.in_ok-done.done.items in
    let count : length kept ≡ length done = search rules in
    all_work c.args.context.now.workers c.args.context.now.arrivals.now.items
    (λ n hand. (hand.number ≡ n) × (hand.context.now ≡ c.args.context.now)) _
    (λ n hand back has made.
    subst (λ context. IfOk back (λ worker.
    IsWork context.workers n context.arrivals.now.items worker.receipts.items worker.refusals.items
    (seen_by worker.pass)))
    has.1
    (subst (λ number. IfOk back (λ worker.
    IsWork hand.context.now.workers number hand.context.now.arrivals.now.items worker.receipts.items
    worker.refusals.items (seen_by worker.pass))) has.0 made)) c.in-Ok.hands.items done kept
    c.in-Ok-gather.worked.spent.items c.in-Ok.ensures.each c.in_ok-done.ensures.made count
    c.in-Ok-gather.ensures.each
