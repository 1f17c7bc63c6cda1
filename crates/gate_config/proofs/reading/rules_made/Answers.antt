use Rattle.std.proofs.Common.{rules}
use Rattle.gate_config.proofs.reading.rules_made.Goals as goal

pub returns-in_err-table-clause-table : goal.returns-in_err-table-clause-table
returns-in_err-table-clause-table c = search rules

pub returns-in_err-table-clause-resolvers : goal.returns-in_err-table-clause-resolvers
returns-in_err-table-clause-resolvers c = search rules

pub returns-in_err-table-clause-bypass : goal.returns-in_err-table-clause-bypass
returns-in_err-table-clause-bypass c = search rules

pub returns-in_err-resolvers-clause-table : goal.returns-in_err-resolvers-clause-table
returns-in_err-resolvers-clause-table c = search rules

pub returns-in_err-resolvers-clause-resolvers : goal.returns-in_err-resolvers-clause-resolvers
returns-in_err-resolvers-clause-resolvers c = search rules

pub returns-in_err-resolvers-clause-bypass : goal.returns-in_err-resolvers-clause-bypass
returns-in_err-resolvers-clause-bypass c = search rules

pub returns-in_err-bypass-clause-table : goal.returns-in_err-bypass-clause-table
returns-in_err-bypass-clause-table c = search rules

pub returns-in_err-bypass-clause-resolvers : goal.returns-in_err-bypass-clause-resolvers
returns-in_err-bypass-clause-resolvers c = search rules

pub returns-in_err-bypass-clause-bypass : goal.returns-in_err-bypass-clause-bypass
returns-in_err-bypass-clause-bypass c = search rules

pub returns-clause-table : goal.returns-clause-table
returns-clause-table c = search rules

pub returns-clause-resolvers : goal.returns-clause-resolvers
returns-clause-resolvers c = search rules

pub returns-clause-bypass : goal.returns-clause-bypass
returns-clause-bypass c = search rules
