use Rattle.std.proofs.Common.{rules}
use Rattle.vegas.proofs.vegas.Vegas.of.Goals as goal

pub returns-then-lo-lt1-clause-made : goal.returns-then-lo-lt1-clause-made
returns-then-lo-lt1-clause-made c = search rules

pub returns-then-lo-lt1-clause-value : goal.returns-then-lo-lt1-clause-value
returns-then-lo-lt1-clause-value c = search rules

pub returns-then-alpha-lt1-clause-made : goal.returns-then-alpha-lt1-clause-made
returns-then-alpha-lt1-clause-made c = search rules

pub returns-then-alpha-lt1-clause-value : goal.returns-then-alpha-lt1-clause-value
returns-then-alpha-lt1-clause-value c = search rules

pub returns-clause-made : goal.returns-clause-made
returns-clause-made c = search rules

pub returns-clause-value : goal.returns-clause-value
returns-clause-value c = search rules
