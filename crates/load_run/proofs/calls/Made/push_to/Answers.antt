use Rattle.std.proofs.Common.{rules, arith}
use Rattle.std.proofs.lemmas.Grind.{common_steps}
use Rattle.load_run.proofs.calls.Made.push_to.Goals as goal

pub returns-in-Exhausted-clause-made : goal.returns-in-Exhausted-clause-made
returns-in-Exhausted-clause-made g c = search rules

pub returns-in-Exhausted-clause-refused : goal.returns-in-Exhausted-clause-refused
returns-in-Exhausted-clause-refused g c = search rules

pub returns-in-One-clause-made : goal.returns-in-One-clause-made
returns-in-One-clause-made g c = search rules

pub returns-in-One-clause-refused : goal.returns-in-One-clause-refused
returns-in-One-clause-refused g c = search rules

pub returns-in-Stuck-clause-made : goal.returns-in-Stuck-clause-made
returns-in-Stuck-clause-made g c = search rules

pub returns-in-Stuck-clause-refused : goal.returns-in-Stuck-clause-refused
returns-in-Stuck-clause-refused g c = search rules

pub returns-in-Two-clause-made : goal.returns-in-Two-clause-made
returns-in-Two-clause-made g c = grind (arith, common_steps)

pub returns-in-Two-clause-refused : goal.returns-in-Two-clause-refused
returns-in-Two-clause-refused g c = search rules

pub returns-in-Three-clause-made : goal.returns-in-Three-clause-made
returns-in-Three-clause-made g c = grind (arith, common_steps)

pub returns-in-Three-clause-refused : goal.returns-in-Three-clause-refused
returns-in-Three-clause-refused g c = search rules
