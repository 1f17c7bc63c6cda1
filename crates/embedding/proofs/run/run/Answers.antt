use Rattle.std.proofs.Common.{ap, sym, subst}
use Rattle.aimd.specs.AimdRules.{AimdState, aimd_rules}
use Rattle.gate_journal.specs.Journal.{next_number}
use Rattle.gate_history.specs.Book.{Book}
use Rattle.shared_gate.specs.Log.{CallsLegal}
use Rattle.embedding.proofs.run.run.Goals as goal

-- the book was just begun
pub open-requires-clause-unasked : goal.open-requires-clause-unasked
open-requires-clause-unasked g c =
    ap (λ (b : Book AimdState). next_number b.journal) c.in_ok-book.ensures

pub open-requires-clause-unused : goal.open-requires-clause-unused
open-requires-clause-unused g c =
    ap (λ (b : Book AimdState). b.tally.passes) c.in_ok-book.ensures

pub open-requires-clause-legal : goal.open-requires-clause-legal
open-requires-clause-legal g c =
    subst (λ (b : Book AimdState). CallsLegal aimd_rules b.journal g.M.GateNaming.legal)
    (sym c.in_ok-book.ensures) c.requires.legal
