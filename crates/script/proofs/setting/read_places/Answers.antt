use Rattle.std.proofs.Common.{rules}
use Rattle.script.proofs.setting.read_places.Goals as goal

pub returns-in_err-name : goal.returns-in_err-name
returns-in_err-name c = search rules

pub returns-in_err-places : goal.returns-in_err-places
returns-in_err-places c = search rules

pub returns : goal.returns
returns c = search rules
