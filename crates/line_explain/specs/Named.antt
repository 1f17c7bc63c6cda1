-- Which word of a line is named, and how.
use Rattle.std.specs.Prelude.{◌≡◌, ◌<◌, ◌⊎◌, ℕ, ◌+◌, ◌-◌, ◌^◌, min, List, [], ◌++◌, length, Option, Some, None, IfSome, codes, decimal, slice_get}
use Rattle.std.specs.Str.Lines.{lines}
use Rattle.script.specs.declared.fault_kind.FaultKind.{FaultKind}
use Rattle.script.specs.declared.fault_kind.FaultKind.TheVariants as Fault
use Rattle.script.specs.declared.line_fault.LineFault.{LineFault}
use Rattle.script.specs.Words.{words}
use Rattle.script.specs.declared.forms.TextKind.{TextKind}
use Rattle.line_explain.specs.Astray.{astray}
use Rattle.line_explain.specs.Outside.{form_had, outside}

-- THE PLACE THAT IS NAMED by the kind of the fault: that of the first word that no form can go on
-- with; the line's own word, where a setting comes too late or twice; that of the first word out of
-- its range, where one is out of it whatever stood before; or that of a class
abbrev pub IsNamed : TextKind → FaultKind → List (List ℕ) → ℕ → Type 0
IsNamed kind Fault.Words ws place = place ≡ astray kind ws
IsNamed kind Fault.Late ws place = place ≡ 0
IsNamed kind Fault.Twice ws place = place ≡ 0
IsNamed kind Fault.Value ws place = IfSome (form_had kind ws)
    (λ form. outside ws form < length form → place ≡ outside ws form)
IsNamed kind Fault.Class ws place = place ≡ 1

-- a word in quotes, as it is shown, or that it isn't there
abbrev pub shown_as : Option (List ℕ) → List ℕ → List ℕ
shown_as None shown = codes " isn't there"
shown_as (Some word) shown = codes ", \"" ++ shown ++ codes "\""

-- the number of the word at a place, counted from 1, as far as a `usize` goes
abbrev pub number_at : ℕ → ℕ
number_at place = min (place + 1) (2 ^ 64 - 1)

-- the number of a word, with the word and what is wanted there
abbrev pub word_line : ℕ → List ℕ → List ℕ → List ℕ
word_line number word wanted =
    codes "word " ++ decimal number ++ word ++ codes ": " ++ wanted ++ codes "\n"

-- NAMED: it is said of this word of the line, and then what is wanted there
abbrev pub NamesWord : TextKind → FaultKind → List (List ℕ) → List ℕ → Type 0
NamesWord kind why ws said =
    (place : ℕ) × IsNamed kind why ws place × (shown : List ℕ) × (wanted : List ℕ)
    × (said ≡ word_line (number_at place) (shown_as (slice_get ws place) shown) wanted)

-- EXPLAINED: of the line at fault, if the text has it
abbrev pub IsExplained : TextKind → List ℕ → LineFault → List ℕ → Type 0
IsExplained kind text fault said =
    (line : List ℕ) → slice_get (lines text) (fault.line - 1) ≡ Some line
    → NamesWord kind fault.why (words line) said

-- the same by the text that was kept, if one was; or nothing is said, for this lack of memory
abbrev pub IsExplainedBy : Type 0 → TextKind → Option (List ℕ) → LineFault → List ℕ → Type 0
IsExplainedBy Lacked kind None fault said = said ≡ []
IsExplainedBy Lacked kind (Some text) fault said =
    ((said ≡ []) × Lacked) ⊎ IsExplained kind text fault said
