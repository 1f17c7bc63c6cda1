use Rattle.std.proofs.Common.{subst, List, ℕ, [], ◌∷◌, codes}
use Rattle.std.specs.List.{concat}
use Rattle.fault_lines.specs.FaultLine.{IsTold, fault_line}
use Rattle.text_commands.proofs.loads.tell_cause.Goals as goal

-- the text of an audit's cause, of its word
text_of : List ℕ → List ℕ
text_of word = concat (codes "audit: " ∷ word ∷ [])

pub returns : goal.returns
unfolding text_of
returns g c =
    subst (λ word. IsTold g.E.Write.contents c.args.errors.now c.report_fault.new.errors
    (fault_line (text_of word))) c.cause_word.ensures c.report_fault.ensures
