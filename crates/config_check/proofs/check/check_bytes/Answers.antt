use Rattle.std.proofs.Common.{refl, subst}
use Rattle.std.proofs.lemmas.Result.{IfOk-from_err}
use Rattle.counted_io.specs.Effects.{Wrote}
use Rattle.gateway_settings.specs.declared.settings.Settings.{Settings}
use Rattle.config_check.specs.Accepted.{accepted_line}
use Rattle.config_check.proofs.HandedOn.{handed_on}
use Rattle.config_check.proofs.check.check_bytes.Goals as goal

-- bytes without settings
pub returns-in_err-read_bytes-clause-accepted : goal.returns-in_err-read_bytes-clause-accepted
returns-in_err-read_bytes-clause-accepted g c =
    IfOk-from_err c.from_residual.result _ c.from_residual.ensures.0

pub returns-in_err-read_bytes-clause-refused : goal.returns-in_err-read_bytes-clause-refused
returns-in_err-read_bytes-clause-refused g c =
    handed_on c.from_residual.result _ _ c.from_residual.ensures.1
    (refl, c.in_err-read_bytes.ensures.refused)

-- settings that want more exchanges
pub returns-in_err-settings-clause-accepted : goal.returns-in_err-settings-clause-accepted
returns-in_err-settings-clause-accepted g c =
    IfOk-from_err c.from_residual-in_err-settings.result _
    c.from_residual-in_err-settings.ensures.0

pub returns-in_err-settings-clause-refused : goal.returns-in_err-settings-clause-refused
returns-in_err-settings-clause-refused g c =
    handed_on c.from_residual-in_err-settings.result _ _
    c.from_residual-in_err-settings.ensures.1 (
      refl,
      c.in_ok-read_bytes.field-0,
      c.in_ok-read_bytes.ensures.settings,
      c.in_err-settings.ensures.too_few,
    )

-- a line that wasn't written
pub returns-in_err-write_accepted-clause-accepted :
    goal.returns-in_err-write_accepted-clause-accepted
returns-in_err-write_accepted-clause-accepted g c =
    IfOk-from_err c.from_residual-in_err-write_accepted.result _
    c.from_residual-in_err-write_accepted.ensures.0

pub returns-in_err-write_accepted-clause-refused : goal.returns-in_err-write_accepted-clause-refused
returns-in_err-write_accepted-clause-refused g c =
    handed_on c.from_residual-in_err-write_accepted.result _ _
    c.from_residual-in_err-write_accepted.ensures.1 (
      c.in_err-write_accepted.ensures.failed,
      c.in_ok-read_bytes.field-0,
      c.in_ok-read_bytes.ensures.settings,
      c.in_ok-settings.ensures.enough,
    )

pub returns-clause-accepted : goal.returns-clause-accepted
returns-clause-accepted g c = (
  c.in_ok-read_bytes.field-0,
  c.in_ok-read_bytes.ensures.settings,
  c.in_ok-settings.ensures.enough,
  subst (λ (settings : Settings). Wrote g.W.Write.contents c.args.writer.now
      c.write_accepted.new.writer (accepted_line settings)) c.in_ok-settings.ensures.settings
      c.in_ok-write_accepted.ensures.all,
  c.in_ok-write_accepted.ensures.unfailing,
  c.in_ok-write_accepted.ensures.flushed,
)

pub returns-clause-refused : goal.returns-clause-refused
returns-clause-refused g c = tt
