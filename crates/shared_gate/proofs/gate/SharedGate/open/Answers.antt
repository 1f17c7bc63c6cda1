use Rattle.std.proofs.Common.{rules, arith, ◌≡◌, ◌+◌, ap, map, sym, subst, ◌∙◌}
use Rattle.gate_journal.specs.Journal.{Journal, next_number}
use Rattle.shared_gate.specs.Calls.{pass_of}
use Rattle.shared_gate.specs.Log.{CallsLegal}
use Rattle.shared_gate.proofs.Opened.{made_alike}
use Rattle.shared_gate.proofs.gate.SharedGate.open.Goals as goal

pub new-requires-clause-unasked : goal.new-requires-clause-unasked
new-requires-clause-unasked g c =
    let stays : c.seal.new.self.journal ≡ c.args.book.journal = search rules in
    ap next_number stays ∙ c.requires.unasked

-- the passes are all that the book gave
pub new-requires-clause-few : goal.new-requires-clause-few
new-requires-clause-few g c =
    let given : c.seal.new.self.tally.passes ≡ c.args.book.tally.passes + c.args.count =
    search rules in
    omega (arith, given, c.requires.unused, c.requires.passes)

pub new-requires-clause-legal : goal.new-requires-clause-legal
new-requires-clause-legal g c =
    let stays : c.seal.new.self.journal ≡ c.args.book.journal = search rules in
    subst (λ (j : Journal g.row.L.Denot). CallsLegal g.L.Limit.rules j g.M.GateNaming.legal)
    (sym stays) c.requires.legal

pub returns-clause-passes : goal.returns-clause-passes
returns-clause-passes g c =
    c.in_ok-gate.ensures.passes ∙ ap (map pass_of) c.in_ok-passes.ensures.passes
    ∙ made_alike c.args.count
