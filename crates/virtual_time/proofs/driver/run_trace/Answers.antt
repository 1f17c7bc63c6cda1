use Rattle.std.proofs.Common.{◌≡◌, ap, sym, ◌∙◌, subst}
use Rattle.limit_kinds.specs.declared.kinds.AnyLimit.{AnyLimit}
use Rattle.limit_kinds.specs.AnyKinds.{any_rules}
use Rattle.gate_journal.specs.Journal.{Journal}
use Rattle.script.specs.Settings.{timeout_of}
use Rattle.script_gate.specs.Settings.{journal_of}
use Rattle.load_driver.specs.Session.{Session}
use Rattle.load_driver.specs.Stretches.{StandsFor}
use Rattle.trace.specs.Trace.{trace_of}
use Rattle.virtual_time.specs.Course.{limiter_of}
use Rattle.virtual_time.proofs.Simulations.{same_run}
use Rattle.virtual_time.proofs.driver.run_trace.Goals as goal

pub run-requires-clause-none : goal.run-requires-clause-none
run-requires-clause-none c =
    ap (λ (s : Session AnyLimit). s.journal.entries) c.in_ok-session.ensures.begun

pub run-requires-clause-own : goal.run-requires-clause-own
run-requires-clause-own c =
    subst (λ (j : Journal AnyLimit). StandsFor any_rules j c.in_ok-session.session)
    (sym (ap (λ (s : Session AnyLimit). s.journal) c.in_ok-session.ensures.begun))
    c.in_ok-session.ensures.stands

pub returns-clause-run : goal.returns-clause-run
returns-clause-run c =
    let read = c.in_ok-settings.field-0 in
    let opens : c.in_ok-session.session.journal
    ≡ journal_of c.args.n c.args.kept (trace_of c.args.text.now).settings =
    ap (λ (s : Session AnyLimit). s.journal) c.in_ok-session.ensures.begun
    ∙ c.gate_settings.ensures.begins
    ∙ ap (journal_of c.args.n c.args.kept) c.in_ok-settings.ensures.settings in
    same_run _ _ _ _ _ _ _ (ap (limiter_of any_rules) opens)
    (c.deref.ensures.value ∙ c.in_ok-settings.ensures.arrivals)
    (c.timeout-timeout.ensures ∙ ap timeout_of c.in_ok-settings.ensures.settings)
    c.in_ok-told.ensures
