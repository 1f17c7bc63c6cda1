use Rattle.std.proofs.Common.{rules}
use Rattle.audit.specs.Verdict.{audited}
use Rattle.audit.proofs.Accepting.{accepted}
use Rattle.audit.proofs.judge.verdict.Goals as goal

pub returns-in-Ok-clause-accepted : goal.returns-in-Ok-clause-accepted
returns-in-Ok-clause-accepted g c =
    accepted (audited c.args.calls c.args.base c.args.entries.now c.args.kept.now)
    c.first_cause.result c.first_cause.ensures

pub returns-in-Ok-clause-none : goal.returns-in-Ok-clause-none
returns-in-Ok-clause-none g c = search rules
