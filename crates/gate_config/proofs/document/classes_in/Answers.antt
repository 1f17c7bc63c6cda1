use Rattle.std.proofs.Common.{rules}
use Rattle.gate_config.proofs.document.classes_in.Goals as goal

pub read_classes-requires-clause-few : goal.read_classes-requires-clause-few
read_classes-requires-clause-few c = search rules

pub returns-in_err-classes-clause-said : goal.returns-in_err-classes-clause-said
returns-in_err-classes-clause-said c = search rules

pub returns-clause-said : goal.returns-clause-said
returns-clause-said c = search rules
