use Rattle.std.proofs.Common.{◌≡◌, ◌≤◌, subst}
use Rattle.limiter_core.specs.declared.event.Event.{Event}
use Rattle.gate_journal.specs.Journal.{Journal, answered}
use Rattle.gate_journal.specs.Rolling.{ready}
use Rattle.gate_history.specs.Handing.{given_by, told_of}
use Rattle.gate_history.specs.Steps.{event_of}
use Rattle.ports.specs.Solo.{Makes, Solo}
use Rattle.ports.proofs.Made.{makes}
use Rattle.ports.proofs.solo.SoloPort.step.Goals as goal

pub returns : goal.returns
returns g c =
    let rules = g.L.Limit.rules in
    subst (λ (solo : Solo g.row.L.Denot). Makes rules solo.book.journal
    c.step.new.self.journal (event_of c.args.call) c.step.result) c.self.view_is
    (makes rules c.self.inside.book c.step.new.self _ _ (event_of c.args.call)
    (told_of c.step.result) (given_by c.step.result) c.requires
    (subst (λ (j : Journal g.row.L.Denot). 1 ≤ j.kept) c.journal.ensures c.invariant.ensures.some)
    (subst (λ (j : Journal g.row.L.Denot). (e : Event)
    → answered rules (ready rules j) e ≡ answered rules j e) c.journal.ensures
    c.invariant.ensures.same)
    c.step.ensures)
