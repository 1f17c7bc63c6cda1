use Rattle.std.specs.List.{list_any}
use Rattle.std.proofs.Common.{◌∙◌, ap, ◌&&◌, List, bytes_eq}
use Rattle.gate_config.specs.declared.key.Key.{Key}
use Rattle.gate_config.specs.Allowed.{allows}
use Rattle.gate_config.specs.Rows.{name_of}
use Rattle.gate_config.proofs.AllowedNames.{named}
use Rattle.gate_config.proofs.allowed.AllowedKeys.has_name.Goals as goal

pub returns : goal.returns
returns c =
    c.is_allowed.ensures
    ∙ ap (λ (keys : List Key).
    list_any (λ key. allows c.args.self key && bytes_eq c.args.name.now (name_of key)) keys)
    c.listed.ensures
    ∙ named c.args.self c.args.name.now
