use Rattle.std.proofs.Common.{ap, sym, subst}
use Rattle.gate_journal.specs.Journal.{next_number}
use Rattle.gate_history.specs.Book.{Book}
use Rattle.shared_gate.specs.Log.{CallsLegal}
use Rattle.load_run.proofs.run.open_over.Goals as goal

-- the book was just begun
pub open-requires-clause-unasked : goal.open-requires-clause-unasked
open-requires-clause-unasked g c =
    ap (λ (b : Book g.row.L.Denot). next_number b.journal) c.in_ok-book.ensures

pub open-requires-clause-unused : goal.open-requires-clause-unused
open-requires-clause-unused g c =
    ap (λ (b : Book g.row.L.Denot). b.tally.passes) c.in_ok-book.ensures

pub open-requires-clause-legal : goal.open-requires-clause-legal
open-requires-clause-legal g c =
    subst (λ (b : Book g.row.L.Denot). CallsLegal g.L.Limit.rules b.journal g.M.GateNaming.legal)
    (sym c.in_ok-book.ensures) c.requires.legal
