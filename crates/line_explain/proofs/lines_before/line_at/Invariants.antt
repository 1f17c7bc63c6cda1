use Rattle.std.proofs.Common.{◌≡◌, ◌-◌}
use Rattle.std.specs.Prelude.{slice_get}
use Rattle.std.specs.Str.Lines.{lines}
use Rattle.line_explain.proofs.lines_before.line_at.Given as goal

-- the line stands among those that are left, by the number of those that are cut off
abbrev pub invariant-loop-before : goal.invariant-loop-before
invariant-loop-before l =
    slice_get (lines l.rest) (l.number - l._before) ≡ slice_get (lines l.text) (l.number - 1)
