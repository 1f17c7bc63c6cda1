use Rattle.std.proofs.Common.{rules}
use Rattle.gate_ledgers.proofs.place.PlaceLedger.enter.Goals as goal

pub returns-clause-total : goal.returns-clause-total
returns-clause-total c = search rules

pub returns-clause-granted : goal.returns-clause-granted
returns-clause-granted c = search rules

pub split_off-share-requires-clause-has_amount : goal.split_off-share-requires-clause-has_amount
split_off-share-requires-clause-has_amount c = search rules
