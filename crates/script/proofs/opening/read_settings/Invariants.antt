use Rattle.std.proofs.Common.{◌≡◌, ◌≤◌, ◌+◌, length, None}
use Rattle.std.specs.Str.Lines.{lines}
use Rattle.script.specs.Opening.{opening_from, opening_of}
use Rattle.script.proofs.opening.read_settings.Given as goal

-- the opening of the lines that are left, under the settings so far, is that of the text
abbrev pub invariant-loop-line : goal.invariant-loop-line
invariant-loop-line l = record {
  told : opening_from l.settings l.number (lines l.rest) ≡ opening_of l.text;
  counted : l.number + length l.rest ≤ 1 + length l.text;
  faultless : l.fault ≡ None;
}

abbrev pub decreases-loop-line : goal.decreases-loop-line
decreases-loop-line l = length l.rest
