use Rattle.std.proofs.Common.{rules, arith}
use Rattle.std.proofs.lemmas.Grind.{common_steps}
use Rattle.std.proofs.lemmas.List.{length-map}
use Rattle.gate_config.specs.Resolver.{resolver_member}
use Rattle.gate_config.proofs.resolver.read_resolvers.Goals as goal

pub loop-item-init : goal.loop-item-init
loop-item-init c = search rules

pub returns-in_err-keys : goal.returns-in_err-keys
returns-in_err-keys c =
    let same = length-map c.loop-item.resolvers.items resolver_member in
    grind (arith, common_steps)

pub returns-in_err-map_err : goal.returns-in_err-map_err
returns-in_err-map_err c = search rules

pub returns : goal.returns
returns c = grind (arith, common_steps)
