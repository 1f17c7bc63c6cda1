use Rattle.std.proofs.Common.{List, ℕ, ◌∷◌, [], subst, codes, decimal}
use Rattle.std.specs.List.{concat}
use Rattle.fault_lines.specs.FaultLine.{IsTold, fault_line}
use Rattle.serve_command.proofs.fault.report_descriptors.Goals as goal

-- the line with these two numbers
abbrev line_of : List ℕ → List ℕ → List ℕ
line_of wanted given = fault_line (concat (codes "descriptors: " ∷ wanted ∷ codes " are wanted, "
    ∷ given ∷ codes " are given" ∷ []))

pub returns : goal.returns
returns g c =
    let Told = λ (wanted given : List ℕ). IsTold g.E.Write.contents c.args.errors.now
    c.report_fault.new.errors (line_of wanted given) in
    subst (λ (given : List ℕ). Told (decimal c.args.few.wanted) given) c.format-2.ensures.text
    (subst (λ (wanted : List ℕ). Told wanted c.format-2.result.now) c.format.ensures.text
    c.report_fault.ensures)
