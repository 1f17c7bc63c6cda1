use Rattle.std.proofs.Common.{◌≡◌, ◌∙◌, List, ap, subst}
use Rattle.limiter_core.specs.declared.event.Entry.{Entry}
use Rattle.limiter_core.specs.Bound.{IsSound}
use Rattle.limiter_core.specs.Counting.{counters_after}
use Rattle.gate_journal.specs.Journal.{Journal, gate, image}
use Rattle.shared_gate.specs.Reported.{IsReportAfter}
use Rattle.shared_gate.proofs.Reporting.{reported}
use Rattle.shared_gate.proofs.sealed.Sealed.report.Goals as goal

-- what stands and was counted is that of the book's own journal, which is made as the names say
pub returns : goal.returns
returns g c =
    let made = g.M.Naming.making in
    let rules = g.L.Limit.rules in
    let own = c.core.result.now in
    let same = c.journal-journal.ensures in
    let here : c.self.inside.keeper.log ≡ c.args.self.now = search in
    subst (λ (log : List Entry). IsReportAfter rules made log c.report_of.result) here
    (reported rules made
    g.M.GateNaming.legal c.self.inside.keeper.log c.self.inside.book own c.report_of.result
    c.self.invariant.2
    c.invariant.ensures.making
    (c.core.ensures.rows ∙ ap (λ (j : Journal g.row.L.Denot). j.rows) same)
    (c.core.ensures.room ∙ ap (λ (j : Journal g.row.L.Denot). j.room) same)
    (c.core.ensures.promote ∙ ap (λ (j : Journal g.row.L.Denot). j.promote) same)
    (c.core.ensures.stands ∙ ap (λ (j : Journal g.row.L.Denot). image rules j) same)
    (c.core.ensures.counters
    ∙ ap (λ (j : Journal g.row.L.Denot). counters_after j.opening.counters j.entries) same)
    (subst (λ (j : Journal g.row.L.Denot). IsSound (gate rules j) (image rules j)) same
    c.invariant-2.ensures.sound)
    c.report_of.ensures)
