use Rattle.std.proofs.Common.{◌≡◌, [], drop, map}
use Rattle.gate_config.specs.Resolver.{resolver_member}
use Rattle.gate_config.specs.Rules.{resolvers_after}
use Rattle.gate_config.proofs.reading.resolvers_made.Given as goal

-- what was made so far, and what is to come
abbrev pub invariant-loop-keys : goal.invariant-loop-keys
invariant-loop-keys l =
    resolvers_after l.table [] (map resolver_member l.members)
    ≡ resolvers_after l.table l.resolvers.items (map resolver_member (drop l.keys-index l.members))
