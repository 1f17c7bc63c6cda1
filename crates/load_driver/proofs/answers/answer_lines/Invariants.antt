use Rattle.std.proofs.Common.{◌≡◌, ◌≤◌, ◌+◌, length, string_bytes}
use Rattle.std.specs.Str.Lines.{lines}
use Rattle.load_driver.specs.Replay.{after_text}
use Rattle.load_driver.specs.Session.{open_in}
use Rattle.load_driver.specs.Stretches.{stretch_text}
use Rattle.load_driver.proofs.answers.answer_lines.Given as goal

-- the text so far, and then that of the lines that are left, is that of all lines
abbrev pub invariant-loop-line : goal.invariant-loop-line
invariant-loop-line g l = record {
  told : after_text (string_bytes l.text)
      (stretch_text g.L.Limit.rules l.session.journal (open_in l.session) l.number (lines l.rest))
      ≡ after_text (string_bytes l.fn.text)
      (stretch_text g.L.Limit.rules l.fn.session.journal (open_in l.fn.session) l.first
      (lines l.script));
  counted : l.number + length l.rest ≤ l.first + length l.script;
}

abbrev pub decreases-loop-line : goal.decreases-loop-line
decreases-loop-line g l = length l.rest
