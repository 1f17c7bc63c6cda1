use Rattle.std.proofs.Common.{◌≡◌, take}
use Rattle.std.specs.Prelude.{count_by}
use Rattle.load_run.specs.Kinds.{is_of}
use Rattle.load_run.proofs.counting.count_of.Given as goal

-- those so far are counted
abbrev pub invariant-loop-entry : goal.invariant-loop-entry
invariant-loop-entry l = l.count ≡ count_by (is_of l.kind) (take l.entry-index l.entries)
