use Rattle.load_run.proofs.driver.load.Goals as goal

pub returns-clause-done : goal.returns-clause-done
returns-clause-done g c = c.load_with.ensures.done

pub returns-clause-flushed : goal.returns-clause-flushed
returns-clause-flushed g c = c.load_with.ensures.flushed

pub returns-clause-line : goal.returns-clause-line
returns-clause-line g c = c.load_with.ensures.line

pub returns-clause-audit : goal.returns-clause-audit
returns-clause-audit g c = c.load_with.ensures.audit

pub returns-clause-memory : goal.returns-clause-memory
returns-clause-memory g c = c.load_with.ensures.memory

pub returns-clause-thread : goal.returns-clause-thread
returns-clause-thread g c = c.load_with.ensures.thread

pub returns-clause-lacking : goal.returns-clause-lacking
returns-clause-lacking g c = c.load_with.ensures.lacking

pub returns-clause-read : goal.returns-clause-read
returns-clause-read g c = c.load_with.ensures.read

pub returns-clause-too_large : goal.returns-clause-too_large
returns-clause-too_large g c = c.load_with.ensures.too_large

pub returns-clause-write : goal.returns-clause-write
returns-clause-write g c = c.load_with.ensures.write

pub returns-clause-only_read_fails : goal.returns-clause-only_read_fails
returns-clause-only_read_fails g c = c.load_with.ensures.only_read_fails

pub returns-clause-only_write_fails : goal.returns-clause-only_write_fails
returns-clause-only_write_fails g c = c.load_with.ensures.only_write_fails

pub returns-clause-few_reads : goal.returns-clause-few_reads
returns-clause-few_reads g c = c.load_with.ensures.few_reads

pub returns-clause-reads : goal.returns-clause-reads
returns-clause-reads g c = c.load_with.ensures.reads

pub returns-clause-writes_nothing : goal.returns-clause-writes_nothing
returns-clause-writes_nothing g c = c.load_with.ensures.writes_nothing
