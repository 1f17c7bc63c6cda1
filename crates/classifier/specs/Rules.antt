-- What rules are to their reader.
use Rattle.std.specs.Prelude.{List}
use Rattle.classifier.specs.declared.bypass.Bypass.{Bypass}
use Rattle.classifier.specs.declared.resolver.Resolver.{Resolver}

-- the resolvers in the order in which they are asked, and the bypass rules
pub record RulesValue : Type 0 where
  pub resolvers : List Resolver
  pub bypass : List Bypass
