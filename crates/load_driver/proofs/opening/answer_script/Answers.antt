use Rattle.std.proofs.Common.{◌≡◌, sym, ap, ◌∙◌}
use Rattle.limit_kinds.specs.declared.kinds.AnyLimit.{AnyLimit}
use Rattle.load_driver.specs.Session.{Session}
use Rattle.script_gate.specs.Settings.{journal_of}
use Rattle.load_driver.specs.Opening.{text_after}
use Rattle.load_driver.proofs.Openings.{text_of_session}
use Rattle.load_driver.proofs.Unasked.{opens_unasked}
use Rattle.load_driver.proofs.opening.answer_script.Goals as goal

pub answer_all-requires-clause-unasked : goal.answer_all-requires-clause-unasked
answer_all-requires-clause-unasked c =
    opens_unasked c.gate_settings.result c.in_ok-session.session.journal
    (ap (λ (s : Session AnyLimit). s.journal) c.in_ok-session.ensures.begun)

pub answer_all-requires-clause-none_open : goal.answer_all-requires-clause-none_open
answer_all-requires-clause-none_open c =
    ap (λ (s : Session AnyLimit). s.permits) c.in_ok-session.ensures.begun

pub returns : goal.returns
returns c =
    let read = c.in_ok-settings.field-0 in
    let opens : c.in_ok-session.session.journal ≡ journal_of c.args.n c.args.kept read.settings =
    ap (λ (s : Session AnyLimit). s.journal) c.in_ok-session.ensures.begun
    ∙ c.gate_settings.ensures.begins in
    c.in_ok-fault.ensures
    ∙ text_of_session c.args.n c.args.kept read.settings read.line read.rest.now read.fault
    c.in_ok-session.session.journal _ c.new-text.ensures.bytes opens
    (sym c.is_some.ensures ∙ c.if-is_some.false)
    ∙ ap (text_after c.args.n c.args.kept) c.in_ok-settings.ensures.value
