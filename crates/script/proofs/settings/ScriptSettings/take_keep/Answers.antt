use Rattle.std.proofs.Common.{rules}
use Rattle.script.proofs.settings.ScriptSettings.take_keep.Goals as goal

pub returns-then-is_some-clause-taken : goal.returns-then-is_some-clause-taken
returns-then-is_some-clause-taken c = search rules

pub returns-then-is_some-clause-fault : goal.returns-then-is_some-clause-fault
returns-then-is_some-clause-fault c = search rules

pub returns-then-is_some-clause-unchanged : goal.returns-then-is_some-clause-unchanged
returns-then-is_some-clause-unchanged c = search rules

pub returns-then-entries-lt1-clause-taken : goal.returns-then-entries-lt1-clause-taken
returns-then-entries-lt1-clause-taken c = search rules

pub returns-then-entries-lt1-clause-fault : goal.returns-then-entries-lt1-clause-fault
returns-then-entries-lt1-clause-fault c = search rules

pub returns-then-entries-lt1-clause-unchanged : goal.returns-then-entries-lt1-clause-unchanged
returns-then-entries-lt1-clause-unchanged c = search rules

pub returns-clause-taken : goal.returns-clause-taken
returns-clause-taken c = search rules

pub returns-clause-fault : goal.returns-clause-fault
returns-clause-fault c = search rules

pub returns-clause-unchanged : goal.returns-clause-unchanged
returns-clause-unchanged c = search rules

pub invariant_of-self : goal.invariant_of-self
invariant_of-self c = search rules
