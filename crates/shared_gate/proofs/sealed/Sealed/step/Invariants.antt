use Rattle.std.proofs.Common.{◌-◌, drop, length}
use Rattle.shared_gate.proofs.sealed.Sealed.step.Given as goal

-- the entries of the journal from the next number of the log on
abbrev pub ghosts-raise : goal.ghosts-raise
ghosts-raise g a = record {
  added = drop (length a.keeper.now.log - a._about.now.opening.next) a._about.now.entries;
}
