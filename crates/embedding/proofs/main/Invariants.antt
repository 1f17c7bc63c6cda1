use Rattle.aimd.specs.AimdRules.{aimd_rules}
use Rattle.gate_journal.specs.Settings.{begun}
use Rattle.gate_ledgers.specs.Names.{places_of}
use Rattle.gate_history.specs.Book.{made_with}
use Rattle.shared_gate.specs.Log.{IsLegalFrom}
use Rattle.embedding.proofs.main.Given as goal

-- the ledgers that were just made, and what the gate is made with
abbrev pub ghosts-run-M-Naming : goal.ghosts-run-M-Naming
ghosts-run-M-Naming g a = record {
  calls = a.blanks.calls.name;
  place = places_of a.blanks;
  making = made_with aimd_rules (begun a.settings);
}

-- and the table of its word; two threads call; legal is what its limiter may be asked and answer
abbrev pub ghosts-run-M-GateNaming : goal.ghosts-run-M-GateNaming
ghosts-run-M-GateNaming g a = record {
  word = a.word;
  passes = 2;
  legal = IsLegalFrom aimd_rules (begun a.settings);
}
