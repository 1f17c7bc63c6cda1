use Rattle.std.proofs.Common.{rules, subst}
use Rattle.fault_lines.specs.FaultLine.{fault_line}
use Rattle.load_driver.specs.Driver.{fault_text}
use Rattle.line_explain.specs.BehindFault.{IsToldAnd}
use Rattle.line_explain.specs.Kept.{kept_of}
use Rattle.line_explain.specs.Lacking.{HasLacked}
use Rattle.text_commands.specs.Scripts.{IsMore, kind_of}
use Rattle.text_commands.proofs.scripts.run_text.Goals as goal

-- what the reader inside kept is what is told by
pub returns-in-Err-clause-stopped : goal.returns-in-Err-clause-stopped
returns-in-Err-clause-stopped g c is = (
  c.in-Err.fault,
  c.in-Err.ensures.stopped,
  subst (λ reader. IsToldAnd c.args.explain g.E.Write.contents c.args.errors.now
      c.tell.new.errors (fault_line (fault_text c.in-Err.fault))
      (IsMore (HasLacked c.args.explainer.now c.tell.new.explainer) (kind_of c.args.task)
      (kept_of reader) g.E.Write.contents c.in-Err.fault))
      c.inner.ensures c.tell.ensures,
)

pub returns-in-Ok-clause-done : goal.returns-in-Ok-clause-done
returns-in-Ok-clause-done c = search rules

pub returns-in-Ok-clause-stopped : goal.returns-in-Ok-clause-stopped
returns-in-Ok-clause-stopped c = search rules

pub returns-in-Err-clause-status : goal.returns-in-Err-clause-status
returns-in-Err-clause-status c = search rules

pub returns-in-Err-clause-done : goal.returns-in-Err-clause-done
returns-in-Err-clause-done c = search rules

pub returns-in-Err-clause-flushed : goal.returns-in-Err-clause-flushed
returns-in-Err-clause-flushed c = search rules

pub returns-in-Err-clause-read : goal.returns-in-Err-clause-read
returns-in-Err-clause-read c = search rules

pub returns-in-Err-clause-unfailing : goal.returns-in-Err-clause-unfailing
returns-in-Err-clause-unfailing c = search rules

pub returns-in-Err-clause-quiet : goal.returns-in-Err-clause-quiet
returns-in-Err-clause-quiet c = search rules

pub returns-in-Ok-clause-status : goal.returns-in-Ok-clause-status
returns-in-Ok-clause-status c = search rules

pub returns-in-Ok-clause-flushed : goal.returns-in-Ok-clause-flushed
returns-in-Ok-clause-flushed c = search rules

pub returns-in-Ok-clause-read : goal.returns-in-Ok-clause-read
returns-in-Ok-clause-read c = search rules

pub returns-in-Ok-clause-unfailing : goal.returns-in-Ok-clause-unfailing
returns-in-Ok-clause-unfailing c = search rules

pub returns-in-Ok-clause-quiet : goal.returns-in-Ok-clause-quiet
returns-in-Ok-clause-quiet c = search rules

pub returns-in-Ok-clause-few : goal.returns-in-Ok-clause-few
returns-in-Ok-clause-few c = search rules

pub returns-in-Ok-clause-reads : goal.returns-in-Ok-clause-reads
returns-in-Ok-clause-reads c = search rules

pub returns-in-Err-clause-few : goal.returns-in-Err-clause-few
returns-in-Err-clause-few c = search rules

pub returns-in-Err-clause-reads : goal.returns-in-Err-clause-reads
returns-in-Err-clause-reads c = search rules
