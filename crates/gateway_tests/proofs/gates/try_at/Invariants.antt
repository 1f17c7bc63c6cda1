use Rattle.limit_kinds.specs.AnyKinds.{any_rules}
use Rattle.gate_journal.specs.Settings.{begun}
use Rattle.gate_ledgers.specs.Names.{places_of}
use Rattle.gate_history.specs.Book.{made_with}
use Rattle.gateway_tests.proofs.gates.try_at.Given as goal

-- the ledgers that were just made, as the gate is to be made
abbrev pub ghosts-try_at_named-M-Naming : goal.ghosts-try_at_named-M-Naming
ghosts-try_at_named-M-Naming g a = record {
  calls = a.blanks.calls.name;
  place = places_of a.blanks;
  making = made_with any_rules (begun a.making.settings);
}

-- and the table of its word; it has the passes that it is to have, and each log is called legal
abbrev pub ghosts-try_at_named-M-GateNaming : goal.ghosts-try_at_named-M-GateNaming
ghosts-try_at_named-M-GateNaming g a = record {
  word = a.word;
  passes = a.making.passes;
  legal = λ log. Unit {0};
}
