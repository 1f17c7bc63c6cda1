-- The texts of lines at fault.
use Rattle.std.specs.Prelude.{ℕ, List, [], ◌∷◌, codes}
use Rattle.std.specs.List.{concat}
use Rattle.std.specs.Fmt.{decimal}
use Rattle.script.specs.declared.fault_kind.FaultKind.{FaultKind}
use Rattle.script.specs.declared.fault_kind.FaultKind.TheVariants.{Words, Late, Twice, Value, Class}
use Rattle.script.specs.declared.line_fault.LineFault.{LineFault}

-- the word for what is wrong with a line
abbrev pub kind_text : FaultKind → List ℕ
kind_text Words = codes "words"
kind_text Late = codes "late"
kind_text Twice = codes "twice"
kind_text Value = codes "value"
kind_text Class = codes "class"

-- the number of the line, and what is wrong with it
abbrev pub line_fault_text : LineFault → List ℕ
line_fault_text fault =
    concat (codes "line " ∷ decimal fault.line ∷ codes ": " ∷ kind_text fault.why ∷ [])
