use Rattle.std.proofs.Common.{◌≡◌, ◌≤◌, ◌+◌, length}
use Rattle.std.specs.Str.Lines.{lines}
use Rattle.trace.specs.Calls.{after_calls, calls_of}
use Rattle.trace.proofs.calls.read_calls.Given as goal

-- the calls so far, and then those of the lines that are left, are those of all lines
abbrev pub invariant-loop-line : goal.invariant-loop-line
invariant-loop-line l = record {
  told : after_calls l.arrivals.items (calls_of l.table l.number (lines l.rest))
      ≡ after_calls l.fn.arrivals.items (calls_of l.table l.first (lines l.text));
  counted : l.number + length l.rest ≤ l.first + length l.text;
}

abbrev pub decreases-loop-line : goal.decreases-loop-line
decreases-loop-line l = length l.rest
