use Rattle.std.proofs.Common.{◌≡◌, ◌≤◌, ◌+◌, false, length, refl, ap, arith, rules}
use Rattle.std.proofs.lemmas.Grind.{common_steps}
use Rattle.message_reading.proofs.LastBytes.{progress_behind}
use Rattle.message_reading.proofs.progress.Progress.past.Goals as goal

pub returns-clause-is : goal.returns-clause-is
returns-clause-is c = λ text is.
    let piece = c.args.piece.now in
    let long : 3 ≤ length piece = grind (arith, common_steps) in
    let begun : c.args.self.blank ≡ false = search rules in
    progress_behind text piece c.args.self _ is begun long c.requires.stops refl refl refl refl
    (ap (λ n. c.args.self.lines + n) c.ended.ensures.value)
