use Rattle.std.proofs.Common.{◌+◌}
use Rattle.limit_kinds.specs.AnyKinds.{any_rules}
use Rattle.gate_ledgers.specs.Names.{places_of}
use Rattle.gate_opening.specs.Opening.{journal_of, making_of}
use Rattle.shared_gate.specs.Log.{IsLegalFrom}
use Rattle.serve_command.proofs.context.serve_in.Given as goal

-- the ledgers that were just made, of a gate of the settings
abbrev pub ghosts-serve_named-M-Naming : goal.ghosts-serve_named-M-Naming
ghosts-serve_named-M-Naming g a = record {
  calls = a.blanks.calls.name;
  place = places_of a.blanks;
  making = making_of a.gateway.now.workers a.gateway.now.common.now.settings.now;
}

-- and the table of its word; each worker has a pass, and so has each who serves beside them; legal
-- is what a limiter of the settings may be asked and answer
abbrev pub ghosts-serve_named-M-GateNaming : goal.ghosts-serve_named-M-GateNaming
ghosts-serve_named-M-GateNaming g a = record {
  word = a.word;
  passes = a.gateway.now.workers + a.others;
  legal = IsLegalFrom any_rules
      (journal_of a.gateway.now.workers a.gateway.now.common.now.settings.now);
}
