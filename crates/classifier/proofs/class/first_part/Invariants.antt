use Rattle.std.proofs.Common.{◌≡◌, drop}
use Rattle.classifier.specs.Class.{first_part}
use Rattle.classifier.proofs.class.first_part.Given as goal

-- the resolvers so far decide nothing
abbrev pub invariant-loop-resolver : goal.invariant-loop-resolver
invariant-loop-resolver l =
    first_part l.table l.request l.rules.resolvers
    ≡ first_part l.table l.request (drop l.resolver-index l.rules.resolvers)
