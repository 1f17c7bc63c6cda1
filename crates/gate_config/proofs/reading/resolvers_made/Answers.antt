use Rattle.std.proofs.Common.{rules, arith, ◌≡◌, ◌+◌, Some, drop, map}
use Rattle.std.proofs.lemmas.Grind.{common_steps}
use Rattle.gate_config.specs.Resolver.{resolver_member, resolver_values}
use Rattle.gate_config.specs.Rules.{resolver_from}
use Rattle.gate_config.proofs.Made.{next_made}
use Rattle.gate_config.proofs.reading.resolvers_made.Goals as goal

pub loop-keys-init : goal.loop-keys-init
loop-keys-init c = search rules

pub returns : goal.returns
returns c = grind (arith, common_steps)

pub returns-in_err-make_resolver : goal.returns-in_err-make_resolver
returns-in_err-make_resolver c = grind (arith, common_steps)

pub returns-in_err-add : goal.returns-in_err-add
returns-in_err-add c = search rules

pub loop-keys-preserved : goal.loop-keys-preserved
loop-keys-preserved c =
    let keys = c.loop-keys-item.result in
    let made = c.in_ok-make_resolver.field-0 in
    let said : resolver_from c.args.table.now (resolver_values keys.1) ≡ Some made = search rules in
    let next = next_made c.args.table.now c.loop-keys.resolvers.items (resolver_member keys)
    (map resolver_member (drop (c.loop-keys.keys-index + 1) c.args.members.now)) made said in
    grind (arith, common_steps)
