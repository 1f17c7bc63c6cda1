use Rattle.std.proofs.Common.{rules, ◌≡◌, ◌∙◌, List, All, ap, subst, sym}
use mathlib.Core.List.{IsPrefix}
use Rattle.limiter_core.specs.declared.event.Entry.{Entry}
use Rattle.gate_history.specs.Book.{calls_of}
use Rattle.shared_gate.specs.Calls.{Pass}
use Rattle.shared_gate.proofs.sealed.Sealed.take_back.Goals as goal

pub returns-clause-book : goal.returns-clause-book
returns-clause-book g c =
    let same : c.self.inside.keeper.log ≡ c.args.self.now = search rules in
    c.count_calls.ensures.book ∙ c.self.invariant.2.calls
    ∙ ap (λ (log : List Entry). calls_of log) same

pub returns-clause-all : goal.returns-clause-all
returns-clause-all g c all =
    c.count_calls.ensures.all (all ∙ sym c.self.invariant.3)

pub returns-clause-begun : goal.returns-clause-begun
returns-clause-begun g c =
    let same : c.self.inside.keeper.log ≡ c.args.self.now = search rules in
    subst (λ (log : List Entry). All (λ (pass : Pass). IsPrefix pass.log log) c.args.passes.items)
    same c.count_calls.ensures.begun
