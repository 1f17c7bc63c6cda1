-- The rules of promotion.
use Rattle.std.specs.Prelude.{ℕ, List}
use Rattle.gate_config.specs.declared.promote.PromoteRule.{PromoteRule}
use Rattle.gate_config.specs.declared.promote.PromoteRule.TheVariants as Rule
use Rattle.gate_config.specs.Rows.{all, newest}

-- the word of a rule
abbrev pub rule_word : PromoteRule → List ℕ
rule_word Rule.Newest = newest
rule_word Rule.All = all
