use Rattle.std.proofs.Common.{refl, ap, ◌+◌}
use Rattle.message_reading.proofs.HeadProgress.{progress_more}
use Rattle.message_reading.proofs.progress.Progress.after.Goals as goal

pub returns-clause-is : goal.returns-clause-is
returns-clause-is c = λ text is.
    progress_more text c.args.self _ c.args.byte is c.goes_on_blank-blank.ensures refl refl refl
    (ap (λ n. c.args.self.lines + n) c.ended.ensures.value)
