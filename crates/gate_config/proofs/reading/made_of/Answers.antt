use Rattle.std.proofs.Common.{rules}
use Rattle.gate_config.proofs.Tops.{read_at}
use Rattle.gate_config.proofs.reading.made_of.Goals as goal

pub returns-in_err-table-clause-sound : goal.returns-in_err-table-clause-sound
returns-in_err-table-clause-sound c = search rules

pub returns-in_err-table-clause-said : goal.returns-in_err-table-clause-said
returns-in_err-table-clause-said c = search rules

pub returns-clause-sound : goal.returns-clause-sound
returns-clause-sound c = search rules

pub returns-clause-said : goal.returns-clause-said
returns-clause-said c = search (rules, read_at)
