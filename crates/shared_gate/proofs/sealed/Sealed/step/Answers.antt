use Rattle.std.proofs.Common.{◌≡◌, List, ap, sym, refl, subst, ◌∙◌, length}
use Rattle.limiter_core.specs.declared.event.Entry.{Entry}
use Rattle.gate_journal.specs.Journal.{Journal, answered, next_number}
use Rattle.gate_journal.specs.Rolling.{ready}
use Rattle.gate_history.specs.Handing.{given_by, told_of}
use Rattle.gate_history.specs.Steps.{event_of}
use Rattle.shared_gate.specs.Calls.{Pass, Tells}
use Rattle.shared_gate.proofs.Behind.{number_is}
use Rattle.shared_gate.proofs.Stepping.{behind_after, next_after, passes_after, sealed_after}
use Rattle.shared_gate.proofs.Stepping.{tells_of}
use Rattle.shared_gate.proofs.sealed.Sealed.step.Goals as goal

pub raise-requires-clause-next : goal.raise-requires-clause-next
raise-requires-clause-next g c =
    let rules = g.L.Limit.rules in
    let e = event_of c.args.call in
    let old = c.self.inside.book in
    let new = c.step-step.new.self in
    let same : answered rules (ready rules old.journal) e ≡ answered rules old.journal e =
    subst (λ (v : Journal g.row.L.Denot).
    answered rules (ready rules v) e ≡ answered rules v e) c.journal.ensures
    (c.invariant.ensures.same e) in
    c.number-next.ensures
    ∙ next_after rules old new c.pass.inside.pass c.step-step.new.pass e same
    g.M.Naming.making.limit g.M.GateNaming.legal c.self.inside.keeper.log c.self.invariant.2
    c.journal-journal.result.now c.journal-journal.ensures (told_of c.step-step.result)
    (given_by c.step-step.result) c.step-step.ensures

pub invariant_of-self : goal.invariant_of-self
invariant_of-self g c =
    let rules = g.L.Limit.rules in
    let e = event_of c.args.call in
    let old = c.self.inside.book in
    let new = c.step-step.new.self in
    let same : answered rules (ready rules old.journal) e ≡ answered rules old.journal e =
    subst (λ (v : Journal g.row.L.Denot).
    answered rules (ready rules v) e ≡ answered rules v e) c.journal.ensures
    (c.invariant.ensures.same e) in
    let raised = c.raise.ensures.keeper in (
      ap (λ k. k.table) raised ∙ c.self.invariant.0,
      sealed_after rules old new c.pass.inside.pass c.step-step.new.pass e
          same g.M.Naming.making.limit g.M.GateNaming.legal c.self.inside.keeper.log
          c.self.invariant.2 c.journal-journal.result.now c.journal-journal.ensures
          (told_of c.step-step.result)
          (given_by c.step-step.result) c.step-step.ensures
          ∙ c.self.invariant.1,
      behind_after rules old new c.pass.inside.pass c.step-step.new.pass e
          same g.M.Naming.making.limit g.M.GateNaming.legal c.self.inside.keeper.log
          c.self.invariant.2 c.journal-journal.result.now c.journal-journal.ensures
          c.raise.new.keeper.log
          (ap (λ k. k.log) raised) (c.rolling_runs_are_legal.ensures.stretches rules)
          c.counters_add_up.ensures (told_of c.step-step.result)
          (given_by c.step-step.result) c.step-step.ensures,
      passes_after rules old new c.pass.inside.pass c.step-step.new.pass e
          same g.M.Naming.making.limit g.M.GateNaming.legal c.self.inside.keeper.log
          c.self.invariant.2 c.journal-journal.result.now c.journal-journal.ensures
          (told_of c.step-step.result)
          (given_by c.step-step.result) c.step-step.ensures
          ∙ c.self.invariant.3,
    )

pub invariant_of-pass : goal.invariant_of-pass
invariant_of-pass g c =
    let behind = (invariant_of-self g c).2 in
    let reader = c.raise.ensures.reader in (
      c.raise.ensures.table ∙ c.pass.invariant.0,
      c.number-next.ensures
          ∙ (ap next_number c.journal-journal.ensures
          ∙ (number_is g.L.Limit.rules g.M.Naming.making.limit g.M.GateNaming.legal
          c.step-step.new.self c.raise.new.keeper.log behind
          ∙ ap (λ (l : List Entry). length l) (sym reader))),
      subst (λ (l : List Entry). g.M.GateNaming.legal l) (sym reader)
          (behind.means _ behind.stretch.whole),
    )

pub returns : goal.returns
returns g c =
    let rules = g.L.Limit.rules in
    let e = event_of c.args.call in
    let old = c.self.inside.book in
    let new = c.step-step.new.self in
    let log : List Entry = c.self.inside.keeper.log in
    let same : answered rules (ready rules old.journal) e ≡ answered rules old.journal e =
    subst (λ (v : Journal g.row.L.Denot).
    answered rules (ready rules v) e ≡ answered rules v e) c.journal.ensures
    (c.invariant.ensures.same e) in
    let longer : List Entry = c.raise.new.reader.log in
    let before : Pass = record {
      count = c.pass.inside.pass;
      log = c.pass.inside.reader.log;
      own = c.pass.inside.reader.own;
    } in
    let after : Pass = record {
      count = c.step-step.new.pass;
      log = longer;
      own = c.raise.new.reader.own;
    } in
    subst (λ (pass : Pass). Tells pass after e c.step-step.result) c.pass.view_is
    (tells_of rules old new c.pass.inside.pass c.step-step.new.pass e same
    g.M.Naming.making.limit g.M.GateNaming.legal log c.self.invariant.2
    c.journal-journal.result.now c.journal-journal.ensures longer
    (c.raise.ensures.reader ∙ ap (λ k. k.log) c.raise.ensures.keeper)
    before after refl refl c.raise.ensures.before refl c.raise.ensures.own
    (told_of c.step-step.result)
    (given_by c.step-step.result) c.step-step.ensures)
