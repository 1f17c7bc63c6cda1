use Rattle.std.proofs.Common.{rules, ap, refl, subst}
use Rattle.limiter_core.specs.Bound.{IsSound}
use Rattle.gate_journal.specs.Journal.{Journal, gate, opening}
use Rattle.gate_journal.specs.Settings.{begun}
use Rattle.load_driver.specs.Session.{Session}
use Rattle.load_driver.proofs.Unasked.{opens_unasked, begins, stands_now}
use Rattle.load_driver.proofs.session.Session.new.Goals as goal

-- the journal opens with the limiter that was asked nothing
pub invariant_of-result : goal.invariant_of-result
invariant_of-result g c =
    begins g.L.Limit.rules c.in_ok-journal.journal
    (opens_unasked c.args.settings c.in_ok-journal.journal c.in_ok-journal.ensures)
    c.entries-entries.ensures.sound c.open_permits_are_in_flight.ensures.begins c.new.result
    c.new.ensures.empty

pub returns-clause-begun : goal.returns-clause-begun
returns-clause-begun g c = search rules

-- and is that of its own journal
pub returns-clause-stands : goal.returns-clause-stands
returns-clause-stands g c =
    let settings = c.args.settings in
    let sound : IsSound (gate g.L.Limit.rules (begun settings)) (opening (begun settings)) =
    subst (λ (j : Journal g.row.L.Denot). IsSound (gate g.L.Limit.rules j) (opening j))
    c.in_ok-journal.ensures c.entries-entries.ensures.sound in
    let is = returns-clause-begun g c in
    stands_now g.L.Limit.rules (begun settings)
    (opens_unasked settings (begun settings) refl) sound
    c.open_permits_are_in_flight.ensures.begins _
    (ap (λ (s : Session g.row.L.Denot). s.journal) is)
    (ap (λ (s : Session g.row.L.Denot). s.permits) is)
