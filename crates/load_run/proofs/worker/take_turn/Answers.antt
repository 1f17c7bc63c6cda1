use Rattle.load_run.proofs.Working.{from_both, leaves_one, takes_one}
use Rattle.load_run.proofs.worker.take_turn.Goals as goal

pub returns-then-place-context : goal.returns-then-place-context
returns-then-place-context g c = λ work.
    leaves_one _ _ _ c.args.place c.requires.inside _ _ _ work c.if-place-context.true

pub returns : goal.returns
returns g c =
    from_both c.push_to.result
    (λ joined added work.
    takes_one _ _ _ c.args.place c.requires.inside c.index-arrival.result.now _
    c.index-arrival.ensures _ _ _ _ _ _ _ _ work c.if-place-context.false
    c.make_calls-made.ensures.made c.make_calls-made.ensures.order joined added)
    c.push_to.ensures.made c.push_to.ensures.refused
