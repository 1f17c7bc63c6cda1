use Rattle.limit_kinds.specs.AnyKinds.{any_rules}
use Rattle.gate_ledgers.specs.Names.{places_of}
use Rattle.shared_gate.specs.Log.{IsLegalFrom}
use Rattle.script_gate.specs.Settings.{journal_of}
use Rattle.load_driver.specs.Limits.{kept_entries}
use Rattle.load_run.specs.Load.{making_of}
use Rattle.load_run.proofs.driver.run_trace.Given as goal

-- the ledgers that were just made, and what a gate of the trace is made with
abbrev pub ghosts-run_named-M-Naming : goal.ghosts-run_named-M-Naming
ghosts-run_named-M-Naming g a = record {
  calls = a.blanks.calls.name;
  place = places_of a.blanks;
  making = making_of a.size.limit a.settings;
}

-- and the table of its word; each worker has a pass; legal is what a limiter of the trace may be
-- asked and answer
abbrev pub ghosts-run_named-M-GateNaming : goal.ghosts-run_named-M-GateNaming
ghosts-run_named-M-GateNaming g a = record {
  word = a.word;
  passes = a.size.workers;
  legal = IsLegalFrom any_rules (journal_of a.size.limit kept_entries a.settings);
}
