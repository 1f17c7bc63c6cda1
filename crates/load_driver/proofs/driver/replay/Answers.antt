use Rattle.std.proofs.Common.{rules}
use Rattle.load_driver.proofs.driver.replay.Goals as goal

pub returns-in-None-clause-ok : goal.returns-in-None-clause-ok
returns-in-None-clause-ok g c = search rules

pub returns-in-None-clause-flushed : goal.returns-in-None-clause-flushed
returns-in-None-clause-flushed g c = search rules

pub returns-clause-line : goal.returns-clause-line
returns-clause-line g c = search rules

pub returns-clause-flushed : goal.returns-clause-flushed
returns-clause-flushed g c = search rules

pub returns-in_err-script-clause-memory : goal.returns-in_err-script-clause-memory
returns-in_err-script-clause-memory g c = search rules

pub returns-in_err-script-clause-read : goal.returns-in_err-script-clause-read
returns-in_err-script-clause-read g c = search rules

pub returns-in_err-script-clause-too_large : goal.returns-in_err-script-clause-too_large
returns-in_err-script-clause-too_large g c = search rules

pub returns-clause-ok : goal.returns-clause-ok
returns-clause-ok g c = search rules

pub answer_script-requires-clause-short : goal.answer_script-requires-clause-short
answer_script-requires-clause-short g c = search rules

pub returns-in_err-text-clause-memory : goal.returns-in_err-text-clause-memory
returns-in_err-text-clause-memory g c = search rules

pub returns-in-None-clause-line : goal.returns-in-None-clause-line
returns-in-None-clause-line g c = search rules

pub returns-in-None-clause-memory : goal.returns-in-None-clause-memory
returns-in-None-clause-memory g c = search rules

pub returns-in-None-clause-read : goal.returns-in-None-clause-read
returns-in-None-clause-read g c = search rules

pub returns-in-None-clause-too_large : goal.returns-in-None-clause-too_large
returns-in-None-clause-too_large g c = search rules

pub returns-in-None-clause-write : goal.returns-in-None-clause-write
returns-in-None-clause-write g c = search rules

pub returns-in-None-clause-only_read_fails : goal.returns-in-None-clause-only_read_fails
returns-in-None-clause-only_read_fails g c = search rules

pub returns-in-None-clause-only_write_fails : goal.returns-in-None-clause-only_write_fails
returns-in-None-clause-only_write_fails g c = search rules

pub returns-in-None-clause-few : goal.returns-in-None-clause-few
returns-in-None-clause-few g c = search rules

pub returns-in-None-clause-reads : goal.returns-in-None-clause-reads
returns-in-None-clause-reads g c = search rules

pub returns-in-None-clause-memory_writes_nothing : goal.returns-in-None-clause-memory_writes_nothing
returns-in-None-clause-memory_writes_nothing g c = search rules

pub returns-in-None-clause-read_writes_nothing : goal.returns-in-None-clause-read_writes_nothing
returns-in-None-clause-read_writes_nothing g c = search rules

pub returns-in-None-clause-too_large_writes_nothing :
    goal.returns-in-None-clause-too_large_writes_nothing
returns-in-None-clause-too_large_writes_nothing g c = search rules

pub returns-clause-memory : goal.returns-clause-memory
returns-clause-memory g c = search rules

pub returns-clause-read : goal.returns-clause-read
returns-clause-read g c = search rules

pub returns-clause-too_large : goal.returns-clause-too_large
returns-clause-too_large g c = search rules

pub returns-clause-write : goal.returns-clause-write
returns-clause-write g c = search rules

pub returns-clause-only_read_fails : goal.returns-clause-only_read_fails
returns-clause-only_read_fails g c = search rules

pub returns-clause-only_write_fails : goal.returns-clause-only_write_fails
returns-clause-only_write_fails g c = search rules

pub returns-clause-few : goal.returns-clause-few
returns-clause-few g c = search rules

pub returns-clause-reads : goal.returns-clause-reads
returns-clause-reads g c = search rules

pub returns-clause-memory_writes_nothing : goal.returns-clause-memory_writes_nothing
returns-clause-memory_writes_nothing g c = search rules

pub returns-clause-read_writes_nothing : goal.returns-clause-read_writes_nothing
returns-clause-read_writes_nothing g c = search rules

pub returns-clause-too_large_writes_nothing : goal.returns-clause-too_large_writes_nothing
returns-clause-too_large_writes_nothing g c = search rules

pub returns-in_err-script-clause-ok : goal.returns-in_err-script-clause-ok
returns-in_err-script-clause-ok g c = search rules

pub returns-in_err-script-clause-line : goal.returns-in_err-script-clause-line
returns-in_err-script-clause-line g c = search rules

pub returns-in_err-script-clause-flushed : goal.returns-in_err-script-clause-flushed
returns-in_err-script-clause-flushed g c = search rules

pub returns-in_err-script-clause-write : goal.returns-in_err-script-clause-write
returns-in_err-script-clause-write g c = search rules

pub returns-in_err-script-clause-only_read_fails : goal.returns-in_err-script-clause-only_read_fails
returns-in_err-script-clause-only_read_fails g c = search rules

pub returns-in_err-script-clause-only_write_fails :
    goal.returns-in_err-script-clause-only_write_fails
returns-in_err-script-clause-only_write_fails g c = search rules

pub returns-in_err-script-clause-few : goal.returns-in_err-script-clause-few
returns-in_err-script-clause-few g c = search rules

pub returns-in_err-script-clause-reads : goal.returns-in_err-script-clause-reads
returns-in_err-script-clause-reads g c = search rules

pub returns-in_err-script-clause-memory_writes_nothing :
    goal.returns-in_err-script-clause-memory_writes_nothing
returns-in_err-script-clause-memory_writes_nothing g c = search rules

pub returns-in_err-script-clause-read_writes_nothing :
    goal.returns-in_err-script-clause-read_writes_nothing
returns-in_err-script-clause-read_writes_nothing g c = search rules

pub returns-in_err-script-clause-too_large_writes_nothing :
    goal.returns-in_err-script-clause-too_large_writes_nothing
returns-in_err-script-clause-too_large_writes_nothing g c = search rules

pub returns-in_err-text-clause-ok : goal.returns-in_err-text-clause-ok
returns-in_err-text-clause-ok g c = search rules

pub returns-in_err-text-clause-line : goal.returns-in_err-text-clause-line
returns-in_err-text-clause-line g c = search rules

pub returns-in_err-text-clause-flushed : goal.returns-in_err-text-clause-flushed
returns-in_err-text-clause-flushed g c = search rules

pub returns-in_err-text-clause-read : goal.returns-in_err-text-clause-read
returns-in_err-text-clause-read g c = search rules

pub returns-in_err-text-clause-too_large : goal.returns-in_err-text-clause-too_large
returns-in_err-text-clause-too_large g c = search rules

pub returns-in_err-text-clause-write : goal.returns-in_err-text-clause-write
returns-in_err-text-clause-write g c = search rules

pub returns-in_err-text-clause-only_read_fails : goal.returns-in_err-text-clause-only_read_fails
returns-in_err-text-clause-only_read_fails g c = search rules

pub returns-in_err-text-clause-only_write_fails : goal.returns-in_err-text-clause-only_write_fails
returns-in_err-text-clause-only_write_fails g c = search rules

pub returns-in_err-text-clause-few : goal.returns-in_err-text-clause-few
returns-in_err-text-clause-few g c = search rules

pub returns-in_err-text-clause-reads : goal.returns-in_err-text-clause-reads
returns-in_err-text-clause-reads g c = search rules

pub returns-in_err-text-clause-memory_writes_nothing :
    goal.returns-in_err-text-clause-memory_writes_nothing
returns-in_err-text-clause-memory_writes_nothing g c = search rules

pub returns-in_err-text-clause-read_writes_nothing :
    goal.returns-in_err-text-clause-read_writes_nothing
returns-in_err-text-clause-read_writes_nothing g c = search rules

pub returns-in_err-text-clause-too_large_writes_nothing :
    goal.returns-in_err-text-clause-too_large_writes_nothing
returns-in_err-text-clause-too_large_writes_nothing g c = search rules

pub returns-in_err-write_and_flush-clause-ok : goal.returns-in_err-write_and_flush-clause-ok
returns-in_err-write_and_flush-clause-ok g c = search rules

pub returns-in_err-write_and_flush-clause-line : goal.returns-in_err-write_and_flush-clause-line
returns-in_err-write_and_flush-clause-line g c = search rules

pub returns-in_err-write_and_flush-clause-flushed :
    goal.returns-in_err-write_and_flush-clause-flushed
returns-in_err-write_and_flush-clause-flushed g c = search rules

pub returns-in_err-write_and_flush-clause-memory : goal.returns-in_err-write_and_flush-clause-memory
returns-in_err-write_and_flush-clause-memory g c = search rules

pub returns-in_err-write_and_flush-clause-read : goal.returns-in_err-write_and_flush-clause-read
returns-in_err-write_and_flush-clause-read g c = search rules

pub returns-in_err-write_and_flush-clause-too_large :
    goal.returns-in_err-write_and_flush-clause-too_large
returns-in_err-write_and_flush-clause-too_large g c = search rules

pub returns-in_err-write_and_flush-clause-write : goal.returns-in_err-write_and_flush-clause-write
returns-in_err-write_and_flush-clause-write g c = search rules

pub returns-in_err-write_and_flush-clause-only_read_fails :
    goal.returns-in_err-write_and_flush-clause-only_read_fails
returns-in_err-write_and_flush-clause-only_read_fails g c = search rules

pub returns-in_err-write_and_flush-clause-only_write_fails :
    goal.returns-in_err-write_and_flush-clause-only_write_fails
returns-in_err-write_and_flush-clause-only_write_fails g c = search rules

pub returns-in_err-write_and_flush-clause-few : goal.returns-in_err-write_and_flush-clause-few
returns-in_err-write_and_flush-clause-few g c = search rules

pub returns-in_err-write_and_flush-clause-reads : goal.returns-in_err-write_and_flush-clause-reads
returns-in_err-write_and_flush-clause-reads g c = search rules

pub returns-in_err-write_and_flush-clause-memory_writes_nothing :
    goal.returns-in_err-write_and_flush-clause-memory_writes_nothing
returns-in_err-write_and_flush-clause-memory_writes_nothing g c = search rules

pub returns-in_err-write_and_flush-clause-read_writes_nothing :
    goal.returns-in_err-write_and_flush-clause-read_writes_nothing
returns-in_err-write_and_flush-clause-read_writes_nothing g c = search rules

pub returns-in_err-write_and_flush-clause-too_large_writes_nothing :
    goal.returns-in_err-write_and_flush-clause-too_large_writes_nothing
returns-in_err-write_and_flush-clause-too_large_writes_nothing g c = search rules
