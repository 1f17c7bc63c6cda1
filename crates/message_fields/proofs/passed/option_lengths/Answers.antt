use Rattle.std.proofs.Common.{◌≡◌, ◌∙◌, ◌≤◌, ℕ, List, false, ap, length, sym, take, take_all}
use Rattle.std.specs.Prelude.{codes, ◌&&◌}
use Rattle.std.specs.List.{list_any}
use Rattle.message_parts.specs.Header.{Header}
use Rattle.message_parts.specs.Names.{same_name}
use Rattle.message_fields.specs.Lines.{is_named}
use Rattle.message_fields.specs.Parts.{parts}
use Rattle.message_fields.specs.Passed.{is_connection_option}
use Rattle.message_fields.proofs.ListTests.{list_any-chosen}
use Rattle.message_fields.proofs.passed.option_lengths.Goals as goal
use Rattle.message_fields.proofs.passed.option_lengths.Invariants.{NoneNames}

-- where all lines were looked at
none_named : (lines : List Header) (name : List ℕ) (count : ℕ) → length lines ≤ count
    → NoneNames (take count lines) name → is_connection_option lines name ≡ false
none_named lines name count whole none =
    sym (list_any-chosen (λ part. same_name part name) (λ line. parts line.value)
    (is_named (codes "connection")) lines)
    ∙ sym (ap (list_any (λ line. is_named (codes "connection") line
    && list_any (λ part. same_name part name) (parts line.value))) (take_all count lines whole))
    ∙ none

pub returns-clause-shortest : goal.returns-clause-shortest
returns-clause-shortest c = λ name shorter.
    none_named c.args.lines.now name c.loop-line.line-index c.loop-line-test.false
    (c.loop-line.invariant.0 name shorter)

pub returns-clause-longest : goal.returns-clause-longest
returns-clause-longest c = λ name longer.
    none_named c.args.lines.now name c.loop-line.line-index c.loop-line-test.false
    (c.loop-line.invariant.1 name longer)
