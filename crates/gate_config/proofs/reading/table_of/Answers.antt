use Rattle.std.proofs.Common.{◌≡◌, None}
use Rattle.toml.specs.Errors.{IsMemory}
use Rattle.toml.specs.Parse.{parse_document}
use Rattle.gate_config.proofs.Blank.{blank_table}
use Rattle.gate_config.proofs.reading.table_of.Goals as goal

pub returns-else-is_memory-clause-blank : goal.returns-else-is_memory-clause-blank
returns-else-is_memory-clause-blank c = λ blank utf8.
    let other : ¬ (IsMemory c.in-Err.error) = λ memory. let told = c.is_memory.ensures.1 memory in
    cc in
    let refused : parse_document c.args.bytes.now ≡ None = c.in-Err.ensures.refused other utf8 in
    let read = blank_table c.args.bytes.now blank in
    cc
