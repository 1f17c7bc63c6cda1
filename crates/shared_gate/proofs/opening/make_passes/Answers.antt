use Rattle.std.proofs.Common.{arith, rules}
use Rattle.std.proofs.lemmas.Grind.{common_steps}
use Rattle.shared_gate.proofs.opening.make_passes.Goals as goal

pub returns-in_err-passes-clause-passes : goal.returns-in_err-passes-clause-passes
returns-in_err-passes-clause-passes g c = search rules

pub returns-in_err-passes-clause-journal : goal.returns-in_err-passes-clause-journal
returns-in_err-passes-clause-journal g c = search rules

pub returns-in_err-passes-clause-few : goal.returns-in_err-passes-clause-few
returns-in_err-passes-clause-few g c = search rules

pub loop-init : goal.loop-init
loop-init g c = search rules

pub returns-in_default-clause-passes : goal.returns-in_default-clause-passes
returns-in_default-clause-passes g c = search rules

pub returns-in_default-clause-journal : goal.returns-in_default-clause-journal
returns-in_default-clause-journal g c = search rules

pub returns-in_default-clause-few : goal.returns-in_default-clause-few
returns-in_default-clause-few g c = search rules

pub loop-smaller : goal.loop-smaller
loop-smaller g c = search rules

pub loop-preserved : goal.loop-preserved
loop-preserved g c = grind (arith, common_steps)

pub returns-clause-passes : goal.returns-clause-passes
returns-clause-passes g c = search rules

pub returns-clause-journal : goal.returns-clause-journal
returns-clause-journal g c = search rules

pub returns-clause-few : goal.returns-clause-few
returns-clause-few g c = search rules
