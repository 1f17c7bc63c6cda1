use Rattle.std.proofs.Common.{refl}
use Rattle.message_text.specs.Forwarded.{via_line}
use Rattle.message_text.specs.Line.{line_text, lines_text}
use Rattle.message_text.proofs.persistence.forwarded_end.Goals as goal

pub returns-in-Close-true : goal.returns-in-Close-true
unfolding line_text lines_text via_line
returns-in-Close-true c = rw (c.in-Close-true.is-0, c.in-Close-true.is-1) refl

pub returns-in-Close-false : goal.returns-in-Close-false
unfolding line_text lines_text via_line
returns-in-Close-false c = rw (c.in-Close-false.is-0, c.in-Close-false.is-1) refl

pub returns-in-Keep-true : goal.returns-in-Keep-true
unfolding line_text lines_text via_line
returns-in-Keep-true c = rw (c.in-Keep-true.is-0, c.in-Keep-true.is-1) refl

pub returns-in-Keep-false : goal.returns-in-Keep-false
unfolding line_text lines_text via_line
returns-in-Keep-false c = rw (c.in-Keep-false.is-0, c.in-Keep-false.is-1) refl
