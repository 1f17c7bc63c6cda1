use Rattle.std.proofs.Common.{◌≡◌, ◌+◌, ◌++◌, drop, string_bytes}
use Rattle.load_driver.specs.Replay.{entries_text}
use Rattle.load_driver.proofs.answers.push_entries.Given as goal

-- the text so far, and then that of the entries that are left, is that of all entries
abbrev pub invariant-loop-entry : goal.invariant-loop-entry
invariant-loop-entry l = record {
  numbered : l.number ≡ l.first + l.entry-index;
  told : string_bytes l.text ++ entries_text l.table l.number (drop l.entry-index l.entries)
      ≡ string_bytes l.fn.text ++ entries_text l.table l.first l.entries;
}
