use Rattle.std.proofs.Common.{sym, ◌∙◌, is_some}
use Rattle.toml.specs.Data.{as_str}
use Rattle.gate_config.proofs.TableMembers.{all_values}
use Rattle.gate_config.proofs.resolver.are_strings.Goals as goal

pub returns : goal.returns
returns c =
    c.have_strings.ensures ∙ sym (all_values (λ value. is_some (as_str value)) c.args.routes.now)
