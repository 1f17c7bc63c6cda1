-- An exchange that was carried out.
use Rattle.std.specs.Prelude.{Bool, false, ◌&&◌, is_none}
use Rattle.counted_io.specs.declared.counted.Counted.{Counted}
use Rattle.message_text.specs.declared.persistence.Persistence.{Persistence}
use Rattle.message_text.specs.declared.persistence.Persistence.TheVariants.{Close, Keep}
use Rattle.proxy.specs.declared.told.CallCounts.{CallCounts}
use Rattle.proxy.specs.declared.told.Exchange.{Exchange}
use Rattle.proxy.specs.declared.told.ExchangeSummary.{ExchangeSummary}

-- the counts of a reader or a writer
abbrev pub counts_of : {T : Type 0} → Counted T → CallCounts
counts_of c = record {
  calls = c.calls;
  flushes = c.flushes;
  failures = c.failures;
  is_flushed = c.is_flushed;
}

-- a reader or a writer with these counts
abbrev pub counted_with : {T : Type 0} → T → CallCounts → Counted T
counted_with inner counts = record {
  inner = inner;
  calls = counts.calls;
  flushes = counts.flushes;
  failures = counts.failures;
  is_flushed = counts.is_flushed;
}

-- what became of it
abbrev pub summary_of : Exchange → ExchangeSummary
summary_of x = x.told

-- how its reader and its writer had been called at its end
abbrev pub reads_of : Exchange → CallCounts
reads_of x = x.reads

abbrev pub writes_of : Exchange → CallCounts
writes_of x = x.writes

-- whether it is told that all that was written was sent
abbrev pub is_all_sent : Exchange → Bool
is_all_sent x = x.is_sent

-- KEPT: the client was told that its connection goes on, no write failed, and all was sent
abbrev pub keeps_if : Persistence → Bool → Bool
keeps_if Close well = false
keeps_if Keep well = well

abbrev pub is_kept : Exchange → Bool
is_kept x = keeps_if x.told.persistence (x.is_sent && is_none x.told.written_fault)

abbrev pub with_sent : Bool → Exchange → Exchange
with_sent sent x = record {
  told = x.told;
  reads = x.reads;
  writes = x.writes;
  is_sent = sent;
}
