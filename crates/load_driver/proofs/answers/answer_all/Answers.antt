use Rattle.std.proofs.Common.{ap, ◌∙◌, string_bytes}
use Rattle.std.proofs.lemmas.Result.{IfOk-weaker}
use Rattle.std.specs.Str.Lines.{lines}
use Rattle.load_driver.specs.Replay.{after_text}
use Rattle.load_driver.proofs.Unasked.{text_now}
use Rattle.load_driver.proofs.answers.answer_all.Goals as goal

pub returns : goal.returns
returns g c =
    IfOk-weaker c.answer_lines.result _ _
    (λ fault is. is ∙ ap (after_text (string_bytes c.args.text.now))
    (text_now g.L.Limit.rules c.args.session.now.journal c.requires.unasked
    c.entries-entries.ensures.sound
    c.open_permits_are_in_flight.ensures.begins g.met.L.Limit.lawful
    (c.rolling_runs_are_legal.ensures.stretches g.L.Limit.rules) c.open_permits_may_end.ensures
    c.open_permits_are_in_flight.ensures.answer c.open_permits_are_in_flight.ensures.call
    c.soundness_is_kept.ensures.sound c.args.session.now.permits c.requires.none_open
    c.args.first (lines c.args.script.now)))
    c.answer_lines.ensures
