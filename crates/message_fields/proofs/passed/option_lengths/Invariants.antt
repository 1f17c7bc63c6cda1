use Rattle.std.proofs.Common.{◌≡◌, ◌<◌, ◌&&◌, ℕ, List, false, length, take}
use Rattle.std.specs.Prelude.{codes}
use Rattle.std.specs.List.{list_any}
use Rattle.message_parts.specs.Names.{same_name}
use Rattle.message_parts.specs.Header.{Header}
use Rattle.message_fields.specs.Lines.{is_named}
use Rattle.message_fields.specs.Parts.{parts}
use Rattle.message_fields.proofs.passed.option_lengths.Given as goal

-- none of the lines names the field as a Connection line
abbrev pub NoneNames : List Header → List ℕ → Type 0
NoneNames lines name =
    list_any (λ line. is_named (codes "connection") line
    && list_any (λ part. same_name part name) (parts line.value)) lines ≡ false

-- none of the lines so far names a field of a shorter name, nor one of a longer name
abbrev pub invariant-loop-line : goal.invariant-loop-line
invariant-loop-line l =
    ((name : List ℕ) → length name < l.shortest → NoneNames (take l.line-index l.lines) name)
    × ((name : List ℕ) → l.longest < length name → NoneNames (take l.line-index l.lines) name)
