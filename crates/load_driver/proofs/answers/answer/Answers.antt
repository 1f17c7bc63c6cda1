use Rattle.std.proofs.Common.{ap, ◌∙◌, ◌++◌, List, ℕ, string_bytes}
use Rattle.load_driver.proofs.Wholes.{same_answer, same_lines_then, stands_then}
use Rattle.load_driver.proofs.answers.answer.Goals as goal

pub returns-clause-told : goal.returns-clause-told
returns-clause-told g c = λ whole stands.
    c.in_ok-added.ensures.told
    ∙ same_answer g.L.Limit.rules g.met.L.Limit.lawful
    (c.rolling_runs_are_legal.ensures.stretches g.L.Limit.rules) c.open_permits_may_end.ensures
    c.open_permits_are_in_flight.ensures.answer c.open_permits_are_in_flight.ensures.call
    c.soundness_is_kept.ensures.sound whole c.args.session.now stands c.args.asked c.requires

pub returns-clause-text : goal.returns-clause-text
returns-clause-text g c = λ whole stands.
    c.in_ok-added.ensures.text
    ∙ ap (λ (more : List ℕ). string_bytes c.args.text.now ++ more)
    (same_lines_then g.L.Limit.rules g.met.L.Limit.lawful
    (c.rolling_runs_are_legal.ensures.stretches g.L.Limit.rules) c.open_permits_may_end.ensures
    c.open_permits_are_in_flight.ensures.answer c.open_permits_are_in_flight.ensures.call
    c.soundness_is_kept.ensures.sound whole c.args.session.now stands c.args.asked c.requires)

pub returns-clause-stands : goal.returns-clause-stands
returns-clause-stands g c = λ whole stands.
    stands_then g.L.Limit.rules g.met.L.Limit.lawful
    (c.rolling_runs_are_legal.ensures.stretches g.L.Limit.rules) c.open_permits_may_end.ensures
    c.open_permits_are_in_flight.ensures.answer c.open_permits_are_in_flight.ensures.call
    c.soundness_is_kept.ensures.sound whole c.args.session.now stands c.args.asked c.requires
    c.serve.new.session c.in_ok-added.ensures.journal c.in_ok-added.ensures.opens
