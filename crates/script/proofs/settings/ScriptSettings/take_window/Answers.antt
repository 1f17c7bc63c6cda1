use Rattle.std.proofs.Common.{rules}
use Rattle.script.proofs.settings.ScriptSettings.take_window.Goals as goal

pub returns-then-is_some-clause-taken : goal.returns-then-is_some-clause-taken
returns-then-is_some-clause-taken c = search rules

pub returns-then-is_some-clause-fault : goal.returns-then-is_some-clause-fault
returns-then-is_some-clause-fault c = search rules

pub returns-then-is_some-clause-unchanged : goal.returns-then-is_some-clause-unchanged
returns-then-is_some-clause-unchanged c = search rules

pub returns-in_err-of-clause-taken : goal.returns-in_err-of-clause-taken
returns-in_err-of-clause-taken c = search rules

pub returns-in_err-of-clause-fault : goal.returns-in_err-of-clause-fault
returns-in_err-of-clause-fault c = search rules

pub returns-in_err-of-clause-unchanged : goal.returns-in_err-of-clause-unchanged
returns-in_err-of-clause-unchanged c = search rules

pub returns-clause-taken : goal.returns-clause-taken
returns-clause-taken c = search rules

pub returns-clause-fault : goal.returns-clause-fault
returns-clause-fault c = search rules

pub returns-clause-unchanged : goal.returns-clause-unchanged
returns-clause-unchanged c = search rules
