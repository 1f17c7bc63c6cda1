-- Resolvers made one after the other.
use Rattle.std.proofs.Common.{◌≡◌, List, [], ◌∷◌, ◌++◌, Some}
use Rattle.toml.specs.Data.{Members}
use Rattle.partitions.specs.Table.{Row}
use Rattle.classifier.specs.declared.resolver.Resolver.{Resolver}
use Rattle.gate_config.specs.Section.{Values}
use Rattle.gate_config.specs.Rules.{resolver_from, resolvers_after}

-- the next of them
pub next_made : (rows : List Row) (made : List Resolver) (member : Members × Values)
    (more : List (Members × Values)) (next : Resolver) → resolver_from rows member.1 ≡ Some next
    → resolvers_after rows made (member ∷ more) ≡ resolvers_after rows (made ++ next ∷ []) more
next_made rows made member more next is = rw is
