use Rattle.std.proofs.Common.{sym, ◌∙◌}
use Rattle.gate_config.proofs.TableMembers.{length_pairs}
use Rattle.gate_config.proofs.resolver.count_of.Goals as goal

pub returns : goal.returns
returns c = c.len.ensures.len ∙ sym (length_pairs c.args.routes.now)
