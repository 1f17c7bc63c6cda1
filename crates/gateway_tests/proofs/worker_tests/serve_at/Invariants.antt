use Rattle.limit_kinds.specs.AnyKinds.{any_rules}
use Rattle.gate_ledgers.specs.Names.{places_of}
use Rattle.gate_opening.specs.Opening.{journal_of, making_of}
use Rattle.shared_gate.specs.Log.{IsLegalFrom}
use Rattle.gateway_tests.proofs.worker_tests.serve_at.Given as goal

-- the ledgers that were just made, of a gate of the settings before two workers
abbrev pub ghosts-served_at-M-Naming : goal.ghosts-served_at-M-Naming
ghosts-served_at-M-Naming g a = record {
  calls = a.blanks.calls.name;
  place = places_of a.blanks;
  making = making_of 2 a.settings.now;
}

-- and the table of its word; each worker has a pass, and legal is what a limiter of the settings
-- may be asked and answer
abbrev pub ghosts-served_at-M-GateNaming : goal.ghosts-served_at-M-GateNaming
ghosts-served_at-M-GateNaming g a = record {
  word = a.word;
  passes = 2;
  legal = IsLegalFrom any_rules (journal_of 2 a.settings.now);
}
