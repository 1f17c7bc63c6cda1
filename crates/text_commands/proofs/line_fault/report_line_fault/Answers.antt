use Rattle.std.proofs.Common.{subst, List, ℕ, [], ◌∷◌, codes, decimal}
use Rattle.std.specs.List.{concat}
use Rattle.fault_lines.specs.FaultLine.{IsTold, fault_line}
use Rattle.text_commands.proofs.line_fault.report_line_fault.Goals as goal

-- the text of a line at fault, of its number and its word
text_of : List ℕ → List ℕ → List ℕ
text_of number why = concat (codes "line " ∷ number ∷ codes ": " ∷ why ∷ [])

-- the pieces are the fault's number and word
pub returns : goal.returns
unfolding text_of
returns g c =
    let Tells : List ℕ → Type 0 =
    λ text.
    IsTold g.E.Write.contents c.args.errors.now c.report_fault.new.errors (fault_line text) in
    subst (λ why. Tells (text_of (decimal c.args.fault.line) why)) c.text.ensures
    (subst (λ number. Tells (text_of number c.text.result.now)) c.format.ensures.text
    c.report_fault.ensures)
