use Rattle.std.proofs.Common.{arith, ◌≡◌, ◌≤◌, ◌<◌, ◌+◌, ◌++◌, ◌∙◌, false, length, length-take-le, sym, take}
use Rattle.std.proofs.lemmas.Grind.{common_steps}
use Rattle.message_reading.specs.HeadBytes.{ends_head}
use Rattle.message_reading.proofs.HeadCuts.{by_piece, line_more, long_line_more}
use Rattle.message_reading.proofs.progress.Progress.until_end.Goals as goal
use Rattle.message_reading.proofs.progress.Progress.until_end.Goals.{else-len-le-EMPTY_LINE-via-then-len-le-EMPTY_LINE+else-ends, else-len-le-EMPTY_LINE-via-else-len-le-EMPTY_LINE}

pub loop-at-preserved : goal.loop-at-preserved
loop-at-preserved c =
    let at = c.loop-at.at in
    let bytes = c.args.bytes.now in
    let line = c.line_len-len in
    let inside : at + line.result ≤ length bytes = grind (arith, common_steps) in
    let some : 0 < line.result = grind (arith, common_steps) in
    record {
      is = λ text is short.
          let before = c.loop-at.invariant.is text is (omega (arith, short)) in
          let more = line_more text bytes at line.result _ _ inside some line.ensures.before short
          before.0 before.1 c.through-progress.ensures.is in
          let none : ends_head (text ++ take (at + line.result) bytes) ≡ false =
          elim c.else-len-le-EMPTY_LINE.branch [
            | else-len-le-EMPTY_LINE-via-then-len-le-EMPTY_LINE+else-ends w ↦
                sym (w.ends.ensures _ more.0) ∙ w.if-ends.false
            | else-len-le-EMPTY_LINE-via-else-len-le-EMPTY_LINE w ↦
                long_line_more text bytes at line.result inside
                (omega (arith, w.if-len-le-EMPTY_LINE.false)) line.ensures.before
          ] in
          (more.0, by_piece text _ more.1 none, λ _. none);
      few = grind (arith, common_steps);
      inside = inside;
    }

pub returns-then-ends-clause-cut : goal.returns-then-ends-clause-cut
returns-then-ends-clause-cut c =
    let at = c.loop-at.at in
    let bytes = c.args.bytes.now in
    let line = c.line_len-len in
    let inside : at + line.result ≤ length bytes = grind (arith, common_steps) in
    let some : 0 < line.result = grind (arith, common_steps) in
    let size : length (take (at + line.result) bytes) ≡ at + line.result =
    length-take-le (at + line.result) bytes inside in
    λ text is room.
    let short : length text + (at + line.result) ≤ 65536 = omega (arith, room, size) in
    let before = c.loop-at.invariant.is text is (omega (arith, short)) in
    let more = line_more text bytes at line.result _ _ inside some line.ensures.before short
    before.0 before.1 c.through-progress.ensures.is in
    (more.0, λ _. more.1)
