use Rattle.std.proofs.Common.{◌≡◌, ◌++◌, drop, map}
use Rattle.gate_config.specs.Bypass.{bypass_member}
use Rattle.gate_config.specs.Rules.{bypass_from}
use Rattle.gate_config.proofs.reading.bypasses_made.Given as goal

-- what was made so far, and what is to come
abbrev pub invariant-loop-keys : goal.invariant-loop-keys
invariant-loop-keys l =
    map (λ rule. bypass_from rule.1) (map bypass_member l.members)
    ≡ l.rules.items
    ++ map (λ rule. bypass_from rule.1) (map bypass_member (drop l.keys-index l.members))
