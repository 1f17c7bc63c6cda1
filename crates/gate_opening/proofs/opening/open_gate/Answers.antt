use Rattle.std.proofs.Common.{◌∙◌, ap, sym, subst}
use Rattle.limit_kinds.specs.declared.kinds.AnyLimit.{AnyLimit}
use Rattle.limit_kinds.specs.AnyKinds.{any_rules}
use Rattle.gate_journal.specs.Journal.{Journal, next_number}
use Rattle.gate_history.specs.Book.{Book, made_with}
use Rattle.shared_gate.specs.Log.{CallsLegal}
use Rattle.gate_opening.proofs.opening.open_gate.Goals as goal

-- the book is made of the settings, and was just begun
pub begin-requires-clause-making : goal.begin-requires-clause-making
begin-requires-clause-making g c =
    c.requires.making ∙ ap (made_with any_rules) (sym c.in_ok-made.ensures.begins)

pub open-requires-clause-unasked : goal.open-requires-clause-unasked
open-requires-clause-unasked g c =
    ap (λ (b : Book AnyLimit). next_number b.journal) c.in_ok-book.ensures

pub open-requires-clause-unused : goal.open-requires-clause-unused
open-requires-clause-unused g c =
    ap (λ (b : Book AnyLimit). b.tally.passes) c.in_ok-book.ensures

pub open-requires-clause-legal : goal.open-requires-clause-legal
open-requires-clause-legal g c =
    subst (λ (j : Journal AnyLimit). CallsLegal any_rules j g.M.GateNaming.legal)
    (sym (ap (λ (b : Book AnyLimit). b.journal) c.in_ok-book.ensures ∙ c.in_ok-made.ensures.begins))
    c.requires.legal
