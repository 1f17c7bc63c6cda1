-- What is said of a line at fault behind the line of its fault.
use Rattle.std.specs.Prelude.{ℕ, Bool, true, false, List, Option}
use Rattle.counted_io.specs.declared.counted.Counted.{Counted}
use Rattle.fault_lines.specs.FaultLine.{IsTold}
use Rattle.script.specs.declared.line_fault.LineFault.{LineFault}
use Rattle.script.specs.declared.forms.TextKind.{TextKind}
use Rattle.line_explain.specs.Named.{IsExplainedBy}

-- the line is explained by the text that was kept; or nothing is said, for this lack of memory
abbrev pub IsSaid : {E : Type 0} → Type 0 → TextKind → Option (List ℕ) → (E → Option (List ℕ))
    → LineFault → Counted E → Counted E → Type 0
IsSaid Lacked kind kept contents fault old new =
    (words : List ℕ) × IsExplainedBy Lacked kind kept fault words × IsTold contents old new words

-- TOLD, AND EXPLAINED: the line of a fault is told, and behind it, if that is asked for, what
-- `More` says is written, and else nothing
abbrev pub IsToldAnd : {E : Type 0} → Bool → (E → Option (List ℕ)) → Counted E → Counted E
    → List ℕ → (Counted E → Counted E → Type 0) → Type 0
IsToldAnd false contents old new line More = IsTold contents old new line
IsToldAnd true contents old new line More =
    (between : Counted _) × IsTold contents old between line × More between new
