use Rattle.std.proofs.Common.{Err, ap, refl}
use Rattle.std.proofs.lemmas.Result.{IfOk-from_err}
use Rattle.config_file.proofs.HandedOn.{handed_on}
use Rattle.config_file.proofs.reading.read_bytes.Goals as goal

pub returns-clause-settings : goal.returns-clause-settings
returns-clause-settings c =
    (c.in_ok-read.ensures.settings, λ other. c.in_ok-read.ensures.read refl)

pub returns-clause-sound : goal.returns-clause-sound
returns-clause-sound c = c.in_ok-read.ensures.sound

pub returns-clause-refused : goal.returns-clause-refused
returns-clause-refused c = tt

pub returns-in_err-read-clause-settings : goal.returns-in_err-read-clause-settings
returns-in_err-read-clause-settings c =
    IfOk-from_err c.from_residual.result _ c.from_residual.ensures.0

pub returns-in_err-read-clause-sound : goal.returns-in_err-read-clause-sound
returns-in_err-read-clause-sound c =
    IfOk-from_err c.from_residual.result _ c.from_residual.ensures.0

-- a fault other than that of the text is that of a table which was read
pub returns-in_err-read-clause-refused : goal.returns-in_err-read-clause-refused
returns-in_err-read-clause-refused c =
    let fault = c.in_err-read.ensures in
    handed_on c.from_residual.result _ _ c.from_residual.ensures.1 (
      λ other. (
        λ t reads. fault.settings t reads other,
        λ more. fault.refused other (λ e. more (ap Err e)),
      ),
      λ memory blank text. let is = fault.blank blank text in cc,
    )
