use Rattle.std.proofs.Common.{rules}
use Rattle.script.proofs.settings.ScriptSettings.limit.Goals as goal

pub returns : goal.returns
returns c = search rules
